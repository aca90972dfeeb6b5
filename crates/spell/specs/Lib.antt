pub mod Reply
pub mod Answers
pub mod ReplyLaws
pub mod ReplyNumbers
pub mod ReplyAgain
pub mod Input
