mod Buffer
mod Sizes
