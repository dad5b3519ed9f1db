-- What is beside the maps: a fixed value may change, and none is held.
use Rattle.std.proofs.Common.{◌≡◌, ◌≢◌, ℕ, ◌<◌, ◌≤◌, true, inl, inr, ap, sym, ◌∙◌, subst, arith}
use Rattle.bpf_shared.specs.declared.events.Span.{Span}
use Rattle.bpf_shared.specs.Store.{Plain, Value, put, fixed_count}
use Rattle.bpf_shared.specs.Sound.{IsSoundStore}
use Rattle.bpf_hash.specs.Private.Contents.{Contents, element_count, held_spans, IsUsed, StandsFor}
use Rattle.bpf_shared.proofs.Puts.{put-other}
use Rattle.bpf_shared.proofs.Soundness.{held_later}
use Rattle.bpf_hash.proofs.Accessing.{held_element}

module _ (p : Contents) (s : Plain) (so : IsSoundStore s) (h : StandsFor p s) where
  -- what is in use was made after the fixed values
  used_later : (m i : ℕ) → i < element_count p m → IsUsed p m i → fixed_count s.shape ≤ h.number m i
  used_later m i l (inl k) = so.fixed.in_map m (h.number m i) (_, h.leads m i k)
  used_later m i l (inr (c, inl k)) = so.fixed.kept (h.number m i) (c, h.kept_back c m i l k)
  used_later m i l (inr (c, inr k)) = held_later s so c (h.number m i) (h.held_back c m i l k)

  -- a fixed value may become another
  pub stands_beside : (v : ℕ) (x : Value) → v < fixed_count s.shape → StandsFor p (record s { value = put s.value v x })
  stands_beside v x below = record {
    cpus = h.cpus;
    maps = h.maps;
    running = h.running;
    number = h.number;
    leads = h.leads;
    found = h.found;
    counts = h.counts;
    values = λ m i l u. put-other s.value v (h.number m i) x (λ e. let later = used_later m i l u in omega arith) ∙ h.values m i l u;
    held = h.held;
    held_back = h.held_back;
    kept = h.kept;
    kept_back = h.kept_back;
  }

  -- the value whose span is held
  pub held_value : (c : ℕ) (q : Span) → held_spans p c q ≡ true → (v : ℕ) × (s.held c v ≡ true) × ((s.value v).span ≡ q)
  held_value c q held =
      let e = held_element p c q held in
      (h.number e.0 e.1, h.held_back c e.0 e.1 e.2 e.3, ap (λ (x : Value). x.span) (h.values e.0 e.1 e.2 (inr (c, inr e.3))) ∙ sym e.4)
