-- The loans of one region and its map as segments: what each function of the map comes to, read off the loans. `Says` and `Lawful` are of
-- every kind; `Drawn`, `Get`, `Change` and `Redrawn` are of pages, and `Blocks` is by halves. Assumes nothing.
pub mod Tests
pub mod Addresses
pub mod Drawn
pub mod Says
pub mod Get
pub mod Change
pub mod Redrawn
pub mod Lawful
pub mod Pages
pub mod Blocks
pub mod Halves
pub mod Kinds
