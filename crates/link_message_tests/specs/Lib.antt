pub mod PrefixPeers
