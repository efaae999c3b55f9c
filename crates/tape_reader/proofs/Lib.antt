mod Mapped
mod Whole
