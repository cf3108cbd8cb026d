pub mod AddressReaders
pub mod RecipientReaders
pub mod WrittenPeers
