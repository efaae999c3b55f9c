pub mod Apart
pub mod Tables
pub mod ApartLemmas
