-- Listings of maps, one after the other.
use Rattle.std.proofs.Common.{◌≡◌, ℕ, suc, ◌+◌, ◌<◌, List, [], ◌∷◌, ◌++◌, Some, length, take, get_or, inl, inr, sym, ap, subst, ◌∙◌, arith}
use Rattle.std.specs.Prelude.{map, slice_get, slice_set}
use Rattle.std.proofs.lemmas.List.{length-map, length-set, length-take-le, map-set, take_more_set}
use Rattle.std.proofs.lemmas.Option.{slice_get-get_or}
use Rattle.bpf_base.proofs.Lists.{slice_get-set_same, slice_get-set_other}
use Rattle.bpf_shared.proofs.Puts.{equal_or_not}
use Rattle.bpf_shared.specs.declared.events.Event.{Event}
use Rattle.bpf_shared.specs.declared.events.Event.TheVariants.{Keys}
use Rattle.bpf_shared.specs.declared.shapes.MapShape.{MapShape}
use Rattle.bpf_shared.specs.KeyOrder.{Listed}
use Rattle.bpf_sched.specs.Explained.{keys_events}
use Rattle.bpf_sched.specs.Working.{AreListsFor}

keys_more : (m : ℕ) (xs : List (List (List ℕ))) (x : List (List ℕ)) → keys_events m (xs ++ x ∷ []) ≡ keys_events m xs ++ Keys (m + length xs) x ∷ []
keys_more m [] x = ap (λ (k : ℕ). Keys k x ∷ []) (let e : m ≡ m + 0 = omega arith in e)
keys_more m (y ∷ ys) x =
    ap (λ (es : List Event). Keys m y ∷ es) (keys_more (suc m) ys x ∙ ap (λ (k : ℕ). keys_events (suc m) ys ++ Keys k x ∷ [])
    (let e : suc m + length ys ≡ m + suc (length ys) = omega arith in e))

-- one map more
pub next_keys : (lists : List Listed) (n : ℕ) (new : Listed) → n < length lists
    → keys_events 0 (take (n + 1) (map (λ list. list.keys) (slice_set lists n new))) ≡ keys_events 0
    (take n (map (λ list. list.keys) lists)) ++ Keys n new.keys ∷ []
next_keys lists n new inside =
    let ks = map (λ (list : Listed). list.keys) lists in
    let long : length ks ≡ length lists = length-map lists (λ (list : Listed). list.keys) in
    let short : 0 + length (take n ks) ≡ n = omega (arith, length-take-le n ks (omega arith)) in
    ap (λ (l : List (List (List ℕ))). keys_events 0 (take (n + 1) l)) (map-set (λ (list : Listed). list.keys) lists n new)
    ∙ (ap (keys_events 0) (take_more_set ks n new.keys (omega arith))
    ∙ (keys_more 0 (take n ks) new.keys ∙ ap (λ (k : ℕ). keys_events 0 (take n ks) ++ Keys k new.keys ∷ []) short))

pub still_for : (shapes : List MapShape) (lists : List Listed) (n : ℕ) (new d : Listed) → n < length lists → new.shape ≡
    (get_or lists n d).shape → AreListsFor shapes lists → AreListsFor shapes (slice_set lists n new)
still_for shapes lists n new d inside same are = record {
  few = omega (arith, length-set lists n new, are.few);
  each = λ m list at. elim (equal_or_not m n) [
    | inl is ↦
        let two : Some new ≡ Some list = sym (slice_get-set_same lists n new inside) ∙ subst
        (λ (k : ℕ). slice_get (slice_set lists n new) k ≡ Some list) is at in
        let one : new ≡ list = cc in
        ap (slice_get shapes) is ∙ (are.each n (get_or lists n d) (slice_get-get_or lists n d inside) ∙ ap Some (sym same ∙ ap (λ (l : Listed). l.shape) one))
    | inr ne ↦ are.each m list (sym (slice_get-set_other lists n m new ne) ∙ at)
  ];
}
