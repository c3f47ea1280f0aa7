pub mod Holds
pub mod Printed
pub mod Answer
pub mod Reply
pub mod Numbers
