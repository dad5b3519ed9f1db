-- What a store of ports is made of.
use Rattle.hop_map.specs.declared.store.HopStore.TheInside.{Inside}
use Rattle.hop_map.specs.Stores.{ArePorts, Store}

abbrev pub store_of : Inside → Store
store_of s = record { table = s.table; ports = s.ports.items }

abbrev pub HasAllPorts : Inside → Type 0
HasAllPorts s = ArePorts s.table s.ports.items
