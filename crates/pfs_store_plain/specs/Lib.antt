pub mod PlainRoom
