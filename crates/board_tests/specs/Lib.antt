pub mod Quay
