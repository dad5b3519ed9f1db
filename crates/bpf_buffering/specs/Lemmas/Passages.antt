-- Passages of a store of which one CPU's stores wait follow each other.
use Rattle.std.proofs.Common.{◌∙◌, ℕ, List, [], ◌∷◌, ◌++◌, refl, sym, ap, subst}
use Rattle.std.specs.Prelude.{map}
use Rattle.std.proofs.lemmas.List.{map-append}
use Rattle.bpf_shared.specs.declared.events.Event.{Event}
use Rattle.bpf_shared.specs.declared.events.Entry.{Entry}
use Rattle.bpf_shared.specs.History.{entry}
use Rattle.bpf_x86.specs.Buffers.{Buffered, CallsAll}
use Rattle.bpf_buffering.specs.Search.{alone}
use Rattle.bpf_buffering.specs.Waiting.{WaitingContents, PassesWaiting, buffer_of}

pub calls_joined : (c : ℕ) (es fs : List Event) (b m t : Buffered) → CallsAll b c es m → CallsAll m c fs t → CallsAll b c (es ++ fs) t
calls_joined c [] fs b m t p q = subst (λ (z : Buffered). CallsAll z c fs t) p q
calls_joined c (e ∷ es) fs b m t p q = (p.0, p.1, calls_joined c es fs p.0 m t p.2 q)

pub passes_nothing : (x : WaitingContents) → PassesWaiting x x []
passes_nothing x = ([], refl, record { cpu = refl; serves = refl }, λ kept. (kept, λ s so shows. (s, so, shows, refl)))

pub passes_follow : (x y z : WaitingContents) (xs ys : List Entry) → PassesWaiting x y xs → PassesWaiting y z ys → PassesWaiting x z (xs ++ ys)
passes_follow x y z xs ys p q = (
  p.0 ++ q.0,
  ap (λ (log : List Entry). log ++ ys) p.1 ∙ ap (λ (log : List Entry). map (entry x.cpu) p.0 ++ log)
      (q.1 ∙ ap (λ (c : ℕ). map (entry c) q.0) p.2.cpu) ∙ sym (map-append (entry x.cpu) p.0 q.0),
  record { cpu = q.2.cpu ∙ p.2.cpu; serves = q.2.serves ∙ p.2.serves },
  λ kept.
      let later = q.3 kept in
      let first = p.3 later.0 in (
        first.0,
        λ s so shows.
            (let m = first.1 s so shows in
            let t = later.1 m.0 m.1 m.2 in
            let there : CallsAll (alone m.0 x.cpu (buffer_of y)) x.cpu q.0 (alone t.0 x.cpu (buffer_of z)) =
            subst (λ (c : ℕ). CallsAll (alone m.0 c (buffer_of y)) c q.0 (alone t.0 c (buffer_of z))) p.2.cpu t.3 in (
              t.0,
              t.1,
              t.2,
              calls_joined x.cpu p.0 q.0 (alone s x.cpu (buffer_of x)) (alone m.0 x.cpu (buffer_of y))
                  (alone t.0 x.cpu (buffer_of z)) m.3 there,
            )),
      ),
)
