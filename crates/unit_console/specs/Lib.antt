pub mod Car
