-- Laws of rows of added costs, and of the table of a weight.
pub mod Rows
pub mod Tables
