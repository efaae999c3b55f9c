mod Cursors
mod Sizes
