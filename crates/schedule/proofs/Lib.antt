mod Multiples
mod Goes
mod Early
