pub mod AtOnce
pub mod Inside
pub mod Shapes
pub mod Steps
