pub mod AddrLaws
mod ByteLaws
pub mod GroupLaws
mod HexLaws
pub mod LetterLaws
pub mod LetterTexts
pub mod NumberLaws
pub mod OctetLaws
pub mod PieceLaws
pub mod ProtocolLaws
mod QuadLaws
pub mod TextLaws
