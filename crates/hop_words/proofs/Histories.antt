-- Histories: who has which events, and who is in a run.
use Rattle.std.proofs.Common.{◌≡◌, ◌≢◌, ℕ, ◌+◌, ◌<◌, List, [], ◌∷◌, ◌++◌, refl, ap, sym, subst, ◌∙◌, arith, append_assoc}
use Rattle.std.proofs.lemmas.List.{append-nil, append_cancel_left}
use mathlib.Core.Logic.{dite}
use mathlib.Core.List.{IsPrefix}
use native.Mathlib.Decide.{ℕ_discrete}
use Rattle.bpf_shared.specs.declared.events.Event.{Event}
use Rattle.bpf_shared.specs.declared.events.Entry.{Entry}
use Rattle.bpf_shared.specs.Shape.{IsShape}
use Rattle.bpf_shared.specs.Store.{Plain, as_made, put}
use Rattle.bpf_shared.specs.Events.{Allowed}
use Rattle.bpf_shared.specs.History.{Legal, events_of, entry}
use Rattle.bpf_shared.proofs.Chains.{events_of-append, events_of-own, events_of-other, turns_of-append}
use Rattle.bpf_shared.proofs.Leaving.{history_shape}
use Rattle.bpf_shared.proofs.Own.{own_events_tell}
use Rattle.bpf_shared.proofs.Histories.{history-append}
use Rattle.bpf_shared.proofs.Puts.{put-same, put-other}
use Rattle.hop_layout.specs.declared.about.About.{About}
use Rattle.hop_words.specs.Shortage.{done_in}
use Rattle.hop_words.specs.Rule.{Logged}
use Rattle.bpf_shared.specs.Own.{turns_of, in_run}

pub log_other : (c d : ℕ) (e : Event) (log : List Entry) → d ≢ c → events_of d (log ++ entry c e ∷ []) ≡ events_of d log
log_other c d e log ne = events_of-append d log (entry c e ∷ []) ∙
    (ap (λ (l : List Event). events_of d log ++ l) (events_of-other d c e (λ (s : c ≡ d). ne (sym s))) ∙ append-nil (events_of d log))

pub log_own : (c : ℕ) (e : Event) (log : List Entry) → events_of c (log ++ entry c e ∷ []) ≡ events_of c log ++ e ∷ []
log_own c e log = events_of-append c log (entry c e ∷ []) ∙ ap (λ (l : List Event). events_of c log ++ l) (events_of-own c e)

pub turns_own : (c : ℕ) (e : Event) (log : List Entry) → turns_of (events_of c (log ++ entry c e ∷ [])) ≡ turns_of (events_of c log) + turns_of (e ∷ [])
turns_own c e log = ap turns_of (log_own c e log) ∙ turns_of-append (events_of c log) (e ∷ [])

pub turns_else : (c d : ℕ) (e : Event) (log : List Entry) → d ≢ c → turns_of (events_of d (log ++ entry c e ∷ [])) ≡ turns_of (events_of d log)
turns_else c d e log ne = ap turns_of (log_other c d e log ne)

-- what is after a beginning that has all events of c has none of c
pub rest_has_none : (c : ℕ) (xs ys : List Entry) → events_of c xs ≡ events_of c (xs ++ ys) → events_of c ys ≡ []
rest_has_none c xs ys e = append_cancel_left (events_of c xs) (events_of c ys) [] (sym (events_of-append c xs ys) ∙ (sym e ∙ sym (append-nil (events_of c xs))))

pub prefix_more : (xs ys zs : List Entry) → IsPrefix xs ys → IsPrefix xs (ys ++ zs)
prefix_more xs ys zs p = (p.0 ++ zs, sym (append_assoc xs p.0 zs) ∙ ap (λ (l : List Entry). l ++ zs) p.1)

pub prefix_refl : (xs : List Entry) → IsPrefix xs xs
prefix_refl xs = ([], append-nil xs)

pub done_in-append : (m : ℕ) (xs ys : List Entry) → done_in m (xs ++ ys) ≡ done_in m xs + done_in m ys
done_in-append m [] ys = omega arith
done_in-append m (x ∷ xs) ys = let r = done_in-append m xs ys in omega arith

-- ---- who runs, and the shape
-- who runs is determined by the CPU's own events
pub runs_as_known : (a : About) (c : ℕ) (t : Plain) (log seen : List Entry) → IsShape a.shape → Legal (as_made a.shape) log t → events_of c
    seen ≡ events_of c log → t.running c ≡ in_run (events_of c seen)
runs_as_known a c t log seen shaped legal own = (own_events_tell a.shape c t log shaped legal).0 ∙ ap in_run (sym own)

pub shape_after : (s t : Plain) (log : List Entry) → Legal s log t → t.shape ≡ s.shape
shape_after = history_shape Allowed (λ s t c e a. a)

-- ---- the history after an event of the CPU c, which has seen all of it
pub logged_event : (a : About) (seen : ℕ → List Entry) (log : List Entry) (last t : Plain) (c : ℕ) (e : Event) → Logged a seen log last → c
    < a.shape.cpus → Allowed last c e t
    → Logged a (put seen c (log ++ entry c e ∷ [])) (log ++ entry c e ∷ []) t
logged_event a seen log last t c e p inside may = record {
  legal = history-append Allowed (as_made a.shape) last t log (entry c e ∷ []) p.legal (t, may, refl);
  begins = λ d h. dite (ℕ_discrete d c)
      (λ s. subst (λ (x : List Entry). IsPrefix x now) (sym (put-same seen c d now s)) (prefix_refl now))
      (λ ne. subst (λ (x : List Entry). IsPrefix x now) (sym (put-other seen c d now ne)) (prefix_more (seen d) log (entry c e ∷ []) (p.begins d h)));
  own = λ d h. dite (ℕ_discrete d c)
      (λ s. ap (events_of d) (put-same seen c d now s))
      (λ ne. ap (events_of d) (put-other seen c d now ne) ∙ (p.own d h ∙ sym (log_other c d e log ne)));
  others = λ d past. log_other c d e log (λ (s : d ≡ c). omega arith) ∙ p.others d past;
}
  where
    now : List Entry
    now = log ++ entry c e ∷ []
