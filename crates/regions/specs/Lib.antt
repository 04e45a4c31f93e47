pub mod Leaf
pub mod Pages
