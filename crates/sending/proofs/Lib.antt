-- The laws of what boards send, for every crate whose calls send.
-- Lones: messages of one board. Certificates: messages that gather tags. Numbers: tags as numbers and as bytes.
pub mod Lones
pub mod Certificates
pub mod Numbers
