-- Laws of `end`. `Ends`: how a loop over steps comes to the walk's end. `Used`: how many bytes a walk used. `Images`: demand 3.
pub mod Ends
pub mod Used
pub mod Images
