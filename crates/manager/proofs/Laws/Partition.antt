-- What follows of the chain of free buffers, by what it is about: the buffers, a sound chain, no repeats, the words that get and return
-- change, create, the words of the area, live partitions.
pub mod Buffers
pub mod Chain
pub mod Repeats
pub mod Links
pub mod Created
pub mod Area
pub mod Live
