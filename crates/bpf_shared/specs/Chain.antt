-- The chain of calls that a CPU has made so far, over any shared store.
use Rattle.std.specs.Prelude.{◌≡◌, ◌≢◌, ℕ, Bool, true, List, []}
use Rattle.bpf_shared.specs.declared.events.Event.{Event}
use Rattle.bpf_shared.specs.declared.events.Entry.{Entry}
use Rattle.bpf_shared.specs.History.{events_of}

-- from x to y by a passage in which the CPU has these events, and no other CPU that is served has
-- any; and the same CPUs are served
pub record Chain {T : Type 0} (passes : T → T → List Entry → Type 0) (serves : T → ℕ → Bool)
    (cpu : ℕ) (x y : T) (events : List Event) : Type 0 where
  pub log : List Entry
  pub passage : passes x y log
  pub own : events_of cpu log ≡ events
  pub foreign : (c : ℕ) → serves x c ≡ true → c ≢ cpu → events_of c log ≡ []
  pub serves_same : serves y ≡ serves x
