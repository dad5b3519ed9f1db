-- Passages of a `HashStore` of one event.
use Rattle.std.proofs.Common.{ℕ, refl}
use Rattle.bpf_shared.specs.declared.events.Event.{Event}
use Rattle.bpf_shared.specs.Store.{Plain}
use Rattle.bpf_shared.specs.Events.{Allowed}
use Rattle.bpf_shared.specs.Choice.{Chosen}
use Rattle.bpf_shared.specs.Sound.{IsSoundStore}
use Rattle.bpf_hash.specs.Private.Contents.{Contents, StandsFor, Makes}
use Rattle.bpf_shared.proofs.Soundness.{allowed_sound}

-- an event that is allowed
pub calls : (old new : Contents) (c : ℕ) (e : Event)
    → ((s : Plain) → IsSoundStore s → StandsFor old s → (t : Plain) × Allowed s c e t × Chosen s e t × StandsFor new t)
    → Makes old new c e
calls old new c e step s so h = let r = step s so h in (r.0, (r.0, (r.1, r.2), refl), allowed_sound s r.0 c e so r.1, r.3)
