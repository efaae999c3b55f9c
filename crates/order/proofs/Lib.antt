pub mod Laws
mod Firsts
