pub mod Budgeting
