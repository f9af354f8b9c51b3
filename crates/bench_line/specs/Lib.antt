pub mod Grammar
pub mod Show
pub mod Asked
