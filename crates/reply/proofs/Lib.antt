pub mod ReplyIs
