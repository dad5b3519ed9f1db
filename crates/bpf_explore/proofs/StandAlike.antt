-- A store that looks like a machine's can be in its place.
use Rattle.std.proofs.Common.{◌≡◌, ◌∙◌, ℕ, Bool, List, Option, sym, ap, subst}
use Rattle.std.specs.Prelude.{nat_lt}
use Rattle.bpf_shared.specs.declared.events.Span.{Span}
use Rattle.bpf_hash.proofs.HeldAlike.{held_alike}
use Rattle.bpf_plain.specs.PlainStore.{Contents, held_spans, has_cpu}
use Rattle.bpf_plain.specs.Alike.{LookAlike}
use Rattle.bpf_loader.specs.Loaded.{Loaded}
use Rattle.bpf_helpers.specs.Held.{AreHeld}
use Rattle.bpf_cpu.specs.Task.{Task}
use Rattle.bpf_machine.specs.Listings.{Listing}
use Rattle.bpf_machine.specs.Parts.{CanStand}

module _ (p q : Contents) (alike : LookAlike p q) where
  held_same : (c : ℕ) → held_spans q c ≡ held_spans p c
  held_same c = λ k x. held_alike p.maps q.maps alike.maps c x k

  serves : (c : ℕ) → has_cpu q c ≡ has_cpu p c
  serves c = ap (λ (n : ℕ). nat_lt c n) alike.maps.cpus

  pub can_stand : (programs : List Loaded) (jobs : List Task) (lists others : Option (List Listing)) → CanStand
      (record { store = p; programs = programs; jobs = jobs; lists = lists }) → CanStand
      (record { store = q; programs = programs; jobs = jobs; lists = others })
  can_stand programs jobs lists others is = record {
    served = λ j task at. serves task.cpu ∙ is.served j task at;
    loaded = is.loaded;
    short = is.short;
    hand = λ c j task state left at. (let f = is.hand c j task state left at in record {
      number = f.number;
      program = f.program;
      loaded = f.loaded;
      ready = f.ready;
      held = subst (λ (h : Span → Bool). AreHeld h state.held) (sym (held_same c)) f.held;
      runs = alike.maps.running c ∙ f.runs;
    });
    one = is.one;
    idle = λ c free. alike.maps.running c ∙ is.idle c free;
    order = is.order;
  }
