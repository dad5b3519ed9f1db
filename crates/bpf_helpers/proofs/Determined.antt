-- A call asks what the replies before it determine, and its result is what they determine.
use Rattle.std.proofs.Common.{◌≡◌, ℕ, List, [], ◌∷◌, ◌++◌, Option, Some, None, Result, Ok, inl, inr, ◌⊎◌, sym, ap, subst, ◌∙◌, slice_index}
use Rattle.std.proofs.Common.{slice_get, append_assoc, arith}
use Rattle.bpf_mem.specs.declared.memory.PrivateMemory.{PrivateMemory}
use Rattle.bpf_shared.specs.Laws.{asked}
use Rattle.bpf_shared.specs.declared.events.Event.{Event}
use Rattle.bpf_shared.specs.declared.events.Event.TheVariants.{Lookup, Update, Delete}
use Rattle.bpf_shared.specs.declared.events.MapAnswer.TheVariants.{Done}
use Rattle.bpf_shared.specs.declared.events.Span.{Span}
use Rattle.bpf_shared.specs.declared.shapes.ArrayShape.{ArrayShape}
use Rattle.bpf_shared.specs.declared.shapes.MapShape.{MapShape}
use Rattle.bpf_shared.specs.Shape.{Shape}
use Rattle.bpf_shared.proofs.Fixed.{same_array}
use Rattle.bpf_helpers.specs.declared.fault.HelperFault.{HelperFault}
use Rattle.bpf_helpers.specs.Calls.{TakesAnswer, LooksUp, UpdatesMap, DeletesKey, CallsMap, CallsArray, CallsHelper, processor_number, answer_number}
use Rattle.bpf_helpers.specs.Reads.{IsReadable, Reads}
use Rattle.bpf_helpers.specs.Laws.{CallsAreDetermined}
use Rattle.bpf_helpers.proofs.Asking.{Alike, asked-cons, asked-none, asked-reads, asked-same, readable, same_reads, unasked}
use Rattle.bpf_helpers.proofs.AskingIndexed.{array_called}

taken : (answer : Option Span) (held : List Span) (result end : Result ℕ HelperFault) (after other : List Span) → TakesAnswer answer held
    result after → TakesAnswer answer held end other → (result ≡ end) × (after ≡ other)
taken None held result end after other r s = (r.0 ∙ sym s.0, r.1 ∙ sym s.1)
taken (Some p) held result end after other (inl r) (inl s) = (r.1 ∙ sym s.1, r.2 ∙ sym s.2)
taken (Some p) held result end after other (inl r) (inr s) = absurd (s.0 r.0)
taken (Some p) held result end after other (inr r) (inl s) = absurd (r.0 s.0)
taken (Some p) held result end after other (inr r) (inr s) = (r.1 ∙ sym s.1, r.2 ∙ sym s.2)

module _ (shape : Shape) (memory : PrivateMemory) (registers : List ℕ) (m : ℕ) (h : MapShape) (held after other : List Span)
    (events others : List Event) (result end : Result ℕ HelperFault) where
  looked_up : LooksUp shape memory registers held m h events result after → LooksUp shape memory registers held m h others end other → Alike
      events others result end after other
  looked_up (inl r) (inl s) = unasked events others result end after other r.1.0 s.1.0 (r.1.1 ∙ sym s.1.1) (r.1.2 ∙ sym s.1.2)
  looked_up (inl r) (inr s) = absurd (r.0 (readable shape memory held (slice_index registers 2) h.key s.0 s.1 s.3))
  looked_up (inr r) (inl s) = absurd (s.0 (readable shape memory held (slice_index registers 2) h.key r.0 r.1 r.3))
  looked_up (inr r) (inr s) =
      let x = Lookup m r.0 r.2 in
      let y = Lookup m s.0 s.2 in
      record {
        asks = asked-same events others (r.1 ++ x ∷ []) (s.1 ++ y ∷ []) r.4 s.4
            (asked-reads shape memory held (slice_index registers 2) h.key r.0 s.0 r.1 s.1 (x ∷ []) (y ∷ []) r.3 s.3 (λ key.
            asked-cons x y [] [] (ap (λ k. Lookup m k None) key) (λ _. asked-none)));
        replied = λ e.
            let both : r.1 ++ x ∷ [] ≡ s.1 ++ y ∷ [] = sym r.4 ∙ e ∙ s.4 in
            let same = same_reads shape memory held (slice_index registers 2) h.key r.0 s.0 r.1 s.1 (x ∷ []) (y ∷ []) r.3 s.3 both in
            let last : x ∷ [] ≡ y ∷ [] = same.1 in
            let answer : r.2 ≡ s.2 = cc in
            let P : Option Span → Type 0 = λ o. TakesAnswer o held end other in
            taken r.2 held result end after other r.5 (subst P (sym answer) s.5);
      }

  deleted : DeletesKey shape memory registers held m h events result after → DeletesKey shape memory registers held m h others end other →
      Alike events others result end after other
  deleted (inl r) (inl s) = unasked events others result end after other r.1.0 s.1.0 (r.1.1 ∙ sym s.1.1) (r.1.2 ∙ sym s.1.2)
  deleted (inl r) (inr s) = absurd (r.0 (readable shape memory held (slice_index registers 2) h.key s.0 s.1 s.3))
  deleted (inr r) (inl s) = absurd (s.0 (readable shape memory held (slice_index registers 2) h.key r.0 r.1 r.3))
  deleted (inr r) (inr s) =
      let x = Delete m r.0 r.2 in
      let y = Delete m s.0 s.2 in
      record {
        asks = asked-same events others (r.1 ++ x ∷ []) (s.1 ++ y ∷ []) r.4 s.4
            (asked-reads shape memory held (slice_index registers 2) h.key r.0 s.0 r.1 s.1 (x ∷ []) (y ∷ []) r.3 s.3 (λ key.
            asked-cons x y [] [] (ap (λ k. Delete m k Done) key) (λ _. asked-none)));
        replied = λ e.
            let both : r.1 ++ x ∷ [] ≡ s.1 ++ y ∷ [] = sym r.4 ∙ e ∙ s.4 in
            let same = same_reads shape memory held (slice_index registers 2) h.key r.0 s.0 r.1 s.1 (x ∷ []) (y ∷ []) r.3 s.3 both in
            let last : x ∷ [] ≡ y ∷ [] = same.1 in
            let answer : r.2 ≡ s.2 = cc in
            (r.5 ∙ ap (λ a. Ok (answer_number a)) answer ∙ sym s.5, r.6 ∙ sym s.6);
      }

  unread : (key value : List ℕ) (first second : List Event) → (¬ IsReadable shape memory held (slice_index registers 2) h.key) ⊎
      (¬ IsReadable shape memory held (slice_index registers 3) h.value) → Reads shape memory held (slice_index registers 2) h.key key first
      → Reads shape memory held (slice_index registers 3) h.value value second → ⊥
  unread key value first second (inl lacks) k v = lacks (readable shape memory held (slice_index registers 2) h.key key first k)
  unread key value first second (inr lacks) k v = lacks (readable shape memory held (slice_index registers 3) h.value value second v)

  changed : UpdatesMap shape memory registers held m h events result after → UpdatesMap shape memory registers held m h others end other →
      Alike events others result end after other
  changed (inl r) (inl s) = unasked events others result end after other r.1.0 s.1.0 (r.1.1 ∙ sym s.1.1) (r.1.2 ∙ sym s.1.2)
  changed (inl r) (inr s) = absurd (unread s.0 s.1 s.2 s.3 r.0 s.5 s.6)
  changed (inr r) (inl s) = absurd (unread r.0 r.1 r.2 r.3 s.0 r.5 r.6)
  changed (inr r) (inr s) =
      let x = Update m r.0 r.1 (slice_index registers 4) r.4 in
      let y = Update m s.0 s.1 (slice_index registers 4) s.4 in
      let left : events ≡ r.2 ++ (r.3 ++ x ∷ []) = r.7 ∙ append_assoc r.2 r.3 (x ∷ []) in
      let right : others ≡ s.2 ++ (s.3 ++ y ∷ []) = s.7 ∙ append_assoc s.2 s.3 (y ∷ []) in
      record {
        asks = asked-same events others (r.2 ++ (r.3 ++ x ∷ [])) (s.2 ++ (s.3 ++ y ∷ [])) left right
            (asked-reads shape memory held (slice_index registers 2) h.key r.0 s.0 r.2 s.2 (r.3 ++ x ∷ []) (s.3 ++ y ∷ []) r.5 s.5 (λ key.
            asked-reads shape memory held (slice_index registers 3) h.value r.1 s.1 r.3 s.3 (x ∷ []) (y ∷ []) r.6 s.6 (λ value.
            let same : asked x ≡ asked y = ap (λ k. Update m k r.1 (slice_index registers 4) Done) key ∙ ap
            (λ v. Update m s.0 v (slice_index registers 4) Done) value in
            asked-cons x y [] [] same (λ _. asked-none))));
        replied = λ e.
            let both : r.2 ++ (r.3 ++ x ∷ []) ≡ s.2 ++ (s.3 ++ y ∷ []) = sym left ∙ e ∙ right in
            let first = same_reads shape memory held (slice_index registers 2) h.key r.0 s.0 r.2 s.2 (r.3 ++ x ∷ []) (s.3 ++ y ∷ []) r.5 s.5 both in
            let second = same_reads shape memory held (slice_index registers 3) h.value r.1 s.1 r.3 s.3 (x ∷ []) (y ∷ []) r.6 s.6 first.1 in
            let last : x ∷ [] ≡ y ∷ [] = second.1 in
            let answer : r.4 ≡ s.4 = cc in
            (r.8 ∙ ap (λ a. Ok (answer_number a)) answer ∙ sym s.8, r.9 ∙ sym s.9);
      }

  map_called : (n : ℕ) → CallsMap shape memory registers held m h n events result after → CallsMap shape memory registers held m h n others
      end other → Alike events others result end after other
  map_called n (inl r) (inl s) = looked_up r.1 s.1
  map_called n (inl r) (inr (inl s)) = absurd (let a = r.0 in let b = s.0 in omega arith)
  map_called n (inl r) (inr (inr s)) = absurd (let a = r.0 in let b = s.0 in omega arith)
  map_called n (inr (inl r)) (inl s) = absurd (let a = r.0 in let b = s.0 in omega arith)
  map_called n (inr (inl r)) (inr (inl s)) = changed r.1 s.1
  map_called n (inr (inl r)) (inr (inr s)) = absurd (let a = r.0 in let b = s.0 in omega arith)
  map_called n (inr (inr r)) (inl s) = absurd (let a = r.0 in let b = s.0 in omega arith)
  map_called n (inr (inr r)) (inr (inl s)) = absurd (let a = r.0 in let b = s.0 in omega arith)
  map_called n (inr (inr r)) (inr (inr s)) = deleted r.1 s.1

module _ (shape : Shape) (memory : PrivateMemory) (registers : List ℕ) (held after : List Span) (n : ℕ) (events : List Event)
    (result : Result ℕ HelperFault) where
  other_number : (m : ℕ) (h : MapShape) → n ≡ processor_number → CallsMap shape memory registers held m h n events result after → ⊥
  other_number m h e (inl r) = let a = r.0 in omega arith
  other_number m h e (inr (inl r)) = let a = r.0 in omega arith
  other_number m h e (inr (inr r)) = let a = r.0 in omega arith

  no_array_helper : (cpu a : ℕ) (g : ArrayShape) → n ≡ processor_number → CallsArray shape memory registers held cpu a g n events result after → ⊥
  no_array_helper cpu a g e (inl r) = let b = r.0 in omega arith
  no_array_helper cpu a g e (inr (inl r)) = let b = r.0 in omega arith
  no_array_helper cpu a g e (inr (inr r)) = let b = r.0 in omega arith

module _ (shape : Shape) (n cpu : ℕ) (registers : List ℕ) (memory : PrivateMemory) (held after other : List Span)
    (events others : List Event) (result end : Result ℕ HelperFault) where
  alike : CallsHelper shape n cpu registers memory held events result after → CallsHelper shape n cpu registers memory held others end other
      → Alike events others result end after other
  alike (inl r) (inl s) = unasked events others result end after other r.1 s.1 (r.2 ∙ sym s.2) (r.3 ∙ sym s.3)
  alike (inl r) (inr (inl s)) = absurd (s.0 r.0)
  alike (inl r) (inr (inr (inl s))) = absurd (other_number shape memory registers held other n others end s.0 s.1 r.0 s.3)
  alike (inl r) (inr (inr (inr s))) = absurd (no_array_helper shape memory registers held other n others end cpu s.0 s.1 r.0 s.4)
  alike (inr (inl r)) (inl s) = absurd (r.0 s.0)
  alike (inr (inl r)) (inr (inl s)) = unasked events others result end after other r.3.0 s.3.0 (r.3.1 ∙ sym s.3.1) (r.3.2 ∙ sym s.3.2)
  alike (inr (inl r)) (inr (inr (inl s))) = absurd (r.1 s.0 s.1 s.2)
  alike (inr (inl r)) (inr (inr (inr s))) = absurd (r.2 s.0 s.1 s.2)
  alike (inr (inr (inl r))) (inl s) = absurd (other_number shape memory registers held after n events result r.0 r.1 s.0 r.3)
  alike (inr (inr (inl r))) (inr (inl s)) = absurd (s.1 r.0 r.1 r.2)
  alike (inr (inr (inl r))) (inr (inr (inl s))) =
      let first = r.2.0 in
      let second = s.2.0 in
      let map : s.0 ≡ r.0 = omega arith in
      let there : slice_get shape.maps r.0 ≡ Some s.1 = ap (slice_get shape.maps) (sym map) ∙ s.2.1 in
      let here : slice_get shape.maps r.0 ≡ Some r.1 = r.2.1 in
      let both : Some s.1 ≡ Some r.1 = sym there ∙ here in
      let same : s.1 ≡ r.1 = cc in
      let P : ℕ → Type 0 = λ m. CallsMap shape memory registers held m s.1 n others end other in
      let Q : MapShape → Type 0 = λ h. CallsMap shape memory registers held r.0 h n others end other in
      map_called shape memory registers r.0 r.1 held after other events others result end n r.3 (subst Q same (subst P map s.3))
  alike (inr (inr (inl r))) (inr (inr (inr s))) = absurd (s.3 r.0 r.1 r.2)
  alike (inr (inr (inr r))) (inl s) = absurd (no_array_helper shape memory registers held after n events result cpu r.0 r.1 s.0 r.4)
  alike (inr (inr (inr r))) (inr (inl s)) = absurd (s.2 r.0 r.1 r.2)
  alike (inr (inr (inr r))) (inr (inr (inl s))) = absurd (r.3 s.0 s.1 s.2)
  alike (inr (inr (inr r))) (inr (inr (inr s))) =
      let first = r.2.0 in
      let second = s.2.0 in
      let array : s.0 ≡ r.0 = omega arith in
      let there : slice_get shape.arrays r.0 ≡ Some s.1 = ap (slice_get shape.arrays) (sym array) ∙ s.2.1 in
      let same : s.1 ≡ r.1 = same_array shape.arrays r.0 s.1 r.1 there r.2.1 in
      let P : ℕ → Type 0 = λ a. CallsArray shape memory registers held cpu a s.1 n others end other in
      let Q : ArrayShape → Type 0 = λ g. CallsArray shape memory registers held cpu r.0 g n others end other in
      array_called shape memory registers held cpu r.0 r.1 after other events others result end n r.4 (subst Q same (subst P array s.4))

pub calls_are_determined : CallsAreDetermined
calls_are_determined shape n cpu registers memory held after other events others result end r s =
    let a = alike shape n cpu registers memory held after other events others result end r s in
    (a.asks, a.replied)
