-- Passages of a recorder follow each other.
use Rattle.std.proofs.Common.{◌≡◌, ◌∙◌, List, [], ◌++◌, append_assoc, append-nil, refl, sym, ap}
use Rattle.bpf_shared.specs.declared.events.Entry.{Entry}
use Rattle.bpf_shared.specs.History.{events_of}
use Rattle.bpf_shared.proofs.Chains.{events_of-append}
use Rattle.bpf_plain.specs.Lemmas.Passages as plain
use Rattle.bpf_events.specs.Private.Recording.{Recording, PassesNoted}

pub passes_nothing : (x : Recording) → PassesNoted x x []
passes_nothing x = (plain.passes_nothing x.store, refl, λ kept. (kept, sym (append-nil x.events)))

pub passes_follow : (x y z : Recording) (xs ys : List Entry)
    → PassesNoted x y xs → PassesNoted y z ys → PassesNoted x z (xs ++ ys)
passes_follow x y z xs ys p q = (
  plain.passes_follow x.store y.store z.store xs ys p.0 q.0,
  q.1 ∙ p.1,
  λ kept.
      let later = q.2 kept in
      let first = p.2 later.0 in
      let cpu : events_of y.cpu ys ≡ events_of x.cpu ys = ap (λ c. events_of c ys) p.1 in
      let ends : y.events ++ events_of y.cpu ys
      ≡ (x.events ++ events_of x.cpu xs) ++ events_of x.cpu ys =
      ap (λ es. es ++ events_of y.cpu ys) first.1
      ∙ ap (λ es. (x.events ++ events_of x.cpu xs) ++ es) cpu
      in (
        first.0,
        later.1 ∙ (ends ∙ (append_assoc x.events (events_of x.cpu xs) (events_of x.cpu ys)
            ∙ ap (λ es. x.events ++ es) (sym (events_of-append x.cpu xs ys)))),
      ),
)
