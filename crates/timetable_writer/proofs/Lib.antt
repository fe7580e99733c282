pub mod RowTexts
