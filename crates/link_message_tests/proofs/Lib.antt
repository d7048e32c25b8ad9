mod PrefixPeers
