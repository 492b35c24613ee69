pub mod Credentials
pub mod Authorization
pub mod UserLine
pub mod UserList
