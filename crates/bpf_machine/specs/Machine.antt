-- What callers see of a machine.
use Rattle.std.specs.Prelude.{◌≡◌, List, Option}
use Rattle.bpf_shared.specs.Sound.{IsSoundStore}
use Rattle.bpf_plain.specs.PlainStore.{Contents}
use Rattle.bpf_plain.specs.PlainStore as plain_store
use Rattle.bpf_loader.specs.Loaded.{Loaded}
use Rattle.bpf_cpu.specs.Task.{Task}
use Rattle.bpf_machine.specs.Listings.{Listing, listing_at}
use Rattle.bpf_machine.specs.Schedule.{World}

pub record MachineState : Type 0 where
  pub store : Contents
  pub programs : List Loaded
  pub jobs : List Task
  pub lists : Option (List Listing)

-- the machine shows this world, whose store is one that a legal history may have left
pub record Shows (m : MachineState) (w : World) : Type 0 where
  pub store : plain_store.StandsFor m.store w.store
  pub sound : IsSoundStore w.store
  pub programs : w.programs ≡ m.programs
  pub jobs : w.jobs ≡ m.jobs
  pub lists : w.lists ≡ listing_at m.lists
