pub mod CellNumbers
pub mod OneTree
pub mod Rising
pub mod Ids
pub mod CallNumbers
pub mod KeptReplies
pub mod ToldValues
