-- The definition of SipHash-2-4.
-- It is what the contract of `siphash` cites.
pub mod SipHash
