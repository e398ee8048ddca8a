pub mod Shapes
pub mod Rectangles
