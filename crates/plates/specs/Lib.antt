pub mod Plates
