pub mod Orders
pub mod Sums
pub mod Page
pub mod Ledger
pub mod Dots
pub mod Follows
pub mod Laws
pub mod Memory
