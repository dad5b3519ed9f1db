use Rattle.std.proofs.Common.{◌≡◌, ◌∙◌, ℕ, ◌+◌, ◌≤◌, ◌==◌, ◌||◌, Bool, if◌then◌else◌, List, [], ◌∷◌, ◌++◌, length, length-drop, take, drop}
use Rattle.std.proofs.Common.{map, replicate, slice_index, ap, arith}
use Rattle.std.proofs.lemmas.List.{length-take-le}
use Rattle.bpf_shared.specs.declared.shapes.MapShape.{MapShape}
use Rattle.bpf_hash.specs.declared.runs.Runs.{Runs}
use Rattle.bpf_hash.specs.Private.Rows.{Rows}
use Rattle.bpf_hash.specs.Private.Contents.{any_below}
use Rattle.bpf_hash.specs.Private.Saved.{is_linked, is_noted, notes_of, block_of}
use Rattle.bpf_hash.specs.Private.Normal.{normal_key, normal_value, normal_held, normal_left, low_bit, high_bit, is_note, IsBlockAt}
use Rattle.bpf_hash.proofs.Reading.{long, linked_at, notes_at, held_of, left_of, noted_of, key_at, value_at, block_length, block_inside}
use Rattle.bpf_hash.proofs.Sizing.{part_sized, sized_more}
use Rattle.bpf_hash.proofs.table.restoring.push_element.Goals as goal

part_same : (a b : Bool) (n : ℕ) (xs ys : List ℕ) → a ≡ b → xs ≡ ys → (if a then take n xs else replicate n 0) ≡ (if b then take n ys else replicate n 0)
part_same a b n xs ys e f = ap (λ (k : Bool). if k then take n xs else replicate n 0) e ∙ ap (λ (bs : List ℕ). if b then take n bs else replicate n 0) f

-- what the code has read, where an element is at the head of the bytes
module _ (shape : MapShape) (cpus : ℕ) (rest : List ℕ) (runs : List Runs) (t : Rows) (i : ℕ) (more : List ℕ) (b : IsBlockAt shape cpus rest runs t i more)
    (marks content tail : List ℕ) (noted used : Bool) (key value : ℕ)
    (marks_are : marks ≡ take (1 + cpus) rest) (content_is : content ≡ drop (1 + cpus) rest) (tail_is : tail ≡ drop 1 marks)
    (noted_is : noted ≡ any_below (length tail) (λ c. is_note (slice_index tail c)))
    (key_is : key ≡ (if (slice_index marks 0 == 1) then shape.key else 0))
    (used_is : used ≡ ((slice_index marks 0 == 1) || noted))
    (value_is : value ≡ (if used then shape.value else 0)) where
  linked : (slice_index marks 0 == 1) ≡ is_linked t i
  linked = ap (λ (bs : List ℕ). slice_index bs 0 == 1) marks_are ∙ linked_at shape cpus rest runs t i more b

  notes : tail ≡ notes_of runs t i
  notes = tail_is ∙ (ap (drop 1) marks_are ∙ notes_at shape cpus rest runs t i more b)

  noted_so : noted ≡ is_noted runs t i
  noted_so = noted_is ∙ (ap (λ (bs : List ℕ). any_below (length bs) (λ c. is_note (slice_index bs c))) notes ∙ noted_of runs t i)

  used_so : used ≡ (is_linked t i || is_noted runs t i)
  used_so = used_is ∙ (ap (λ (x : Bool). x || noted) linked ∙ ap (λ (x : Bool). is_linked t i || x) noted_so)

  key_so : key ≡ (if is_linked t i then shape.key else 0)
  key_so = key_is ∙ ap (λ (x : Bool). if x then shape.key else 0) linked

  value_so : value ≡ (if is_linked t i || is_noted runs t i then shape.value else 0)
  value_so = value_is ∙ ap (λ (x : Bool). if x then shape.value else 0) used_so

  count : 1 + cpus + key + value ≡ length (block_of runs t i)
  count =
      ap (λ (n : ℕ). 1 + cpus + n + value) key_so
      ∙ (ap (λ (n : ℕ). 1 + cpus + (if is_linked t i then shape.key else 0) + n) value_so ∙ block_length shape cpus rest runs t i more b)

  fits : key + value ≤ length content
  fits =
      let whole = count in
      let inside = block_inside shape cpus rest runs t i more b in
      let size = ap (λ (bs : List ℕ). length bs) content_is ∙ length-drop (1 + cpus) rest in
      omega (arith, whole, inside, size)

  key_read : (if (slice_index marks 0 == 1) then take shape.key content else replicate shape.key 0) ≡ normal_key t i
  key_read = part_same (slice_index marks 0 == 1) (is_linked t i) shape.key content (drop (1 + cpus) rest) linked content_is ∙ key_at shape
      cpus rest runs t i more b

  value_read : (last : List ℕ) → last ≡ drop key content → (if used then take shape.value last else replicate shape.value 0) ≡ normal_value runs t i
  value_read last e =
      part_same used (is_linked t i || is_noted runs t i) shape.value last (drop (if is_linked t i then shape.key else 0) (drop (1 + cpus) rest)) used_so
      (e ∙ (ap (λ (n : ℕ). drop n content) key_so ∙ ap (drop (if is_linked t i then shape.key else 0)) content_is))
      ∙ value_at shape cpus rest runs t i more b

  held_read : map low_bit tail ≡ normal_held runs t i
  held_read = ap (map low_bit) notes ∙ held_of runs t i

  left_read : map high_bit tail ≡ normal_left runs t i
  left_read = ap (map high_bit) notes ∙ left_of runs t i

pub push_part-requires : goal.push_part-requires
push_part-requires c is =
    let key : c.size_where-key.result ≡ c.args.shape.key = c.size_where-key.ensures ∙ ap (λ (b : Bool). if b then c.args.shape.key else 0) is in
    omega (arith, key)

pub push_part-requires-2 : goal.push_part-requires-2
push_part-requires-2 c is =
    let value : c.size_where-value.result ≡ c.args.shape.value = c.size_where-value.ensures ∙ ap (λ (b : Bool). if b then c.args.shape.value else 0) is in
    let size = ap (λ (bs : List ℕ). length bs) c.past-last.ensures ∙ length-drop c.size_where-key.result c.past-content.result.now in
    omega (arith, value, size)

pub returns-clause-read : goal.returns-clause-read
returns-clause-read c runs t i more b =
    let rest = c.args.rest.now in
    let shape = c.args.shape in
    let cpus = c.args.cpus in (
      count shape cpus rest runs t i more b c.front-marks.result.now c.past-content.result.now c.past.result.now c.in_ok-noted.noted
          c.either-used.result c.size_where-key.result c.size_where-value.result c.front-marks.ensures c.past-content.ensures c.past.ensures
          c.in_ok-noted.ensures.noted c.size_where-key.ensures c.either-used.ensures c.size_where-value.ensures,
      c.in_ok-push.ensures.items ∙ ap (λ (x : Bool). c.args.parts.now.linked.items ++ x ∷ [])
          (linked shape cpus rest runs t i more b c.front-marks.result.now c.past-content.result.now c.past.result.now c.in_ok-noted.noted
          c.either-used.result c.size_where-key.result c.size_where-value.result c.front-marks.ensures c.past-content.ensures c.past.ensures
          c.in_ok-noted.ensures.noted c.size_where-key.ensures c.either-used.ensures c.size_where-value.ensures),
      c.in_ok-push_part.ensures ∙ ap (λ (bs : List ℕ). c.args.parts.now.keys.items ++ bs)
          (key_read shape cpus rest runs t i more b c.front-marks.result.now c.past-content.result.now c.past.result.now c.in_ok-noted.noted
          c.either-used.result c.size_where-key.result c.size_where-value.result c.front-marks.ensures c.past-content.ensures c.past.ensures
          c.in_ok-noted.ensures.noted c.size_where-key.ensures c.either-used.ensures c.size_where-value.ensures),
      c.in_ok-push_part-2.ensures ∙ ap (λ (bs : List ℕ). c.args.parts.now.values.items ++ bs)
          (value_read shape cpus rest runs t i more b c.front-marks.result.now c.past-content.result.now c.past.result.now
          c.in_ok-noted.noted c.either-used.result c.size_where-key.result c.size_where-value.result c.front-marks.ensures
          c.past-content.ensures c.past.ensures c.in_ok-noted.ensures.noted c.size_where-key.ensures c.either-used.ensures
          c.size_where-value.ensures c.past-last.result.now c.past-last.ensures),
      c.in_ok-noted.ensures.held ∙ ap (λ (bs : List ℕ). c.args.parts.now.looked_up.items ++ bs)
          (held_read shape cpus rest runs t i more b c.front-marks.result.now c.past-content.result.now c.past.result.now
          c.in_ok-noted.noted c.either-used.result c.size_where-key.result c.size_where-value.result c.front-marks.ensures
          c.past-content.ensures c.past.ensures c.in_ok-noted.ensures.noted c.size_where-key.ensures c.either-used.ensures
          c.size_where-value.ensures),
      c.in_ok-noted.ensures.left ∙ ap (λ (bs : List ℕ). c.args.parts.now.left.items ++ bs)
          (left_read shape cpus rest runs t i more b c.front-marks.result.now c.past-content.result.now c.past.result.now
          c.in_ok-noted.noted c.either-used.result c.size_where-key.result c.size_where-value.result c.front-marks.ensures
          c.past-content.ensures c.past.ensures c.in_ok-noted.ensures.noted c.size_where-key.ensures c.either-used.ensures
          c.size_where-value.ensures),
    )

pub returns-clause-sized : goal.returns-clause-sized
returns-clause-sized c n is =
    let rest = c.args.rest.now in
    let shape = c.args.shape in
    let cpus = c.args.cpus in
    let front : length c.front-marks.result.now ≡ 1 + cpus = ap (λ (bs : List ℕ). length bs) c.front-marks.ensures ∙ length-take-le
    (1 + cpus) rest (omega arith) in
    let many : length c.past.result.now ≡ cpus =
    (let e = ap (λ (bs : List ℕ). length bs) c.past.ensures ∙ length-drop 1 c.front-marks.result.now in omega (arith, e, front)) in
    sized_more shape cpus n _ _ _ _ _ _ _ _ _ _ _ _ c.past.result.now _ is c.in_ok-push.ensures.items
    c.in_ok-push_part.ensures (part_sized (slice_index c.front-marks.result.now 0 == 1) shape.key c.past-content.result.now
    (λ h. let key : c.size_where-key.result ≡ shape.key = c.size_where-key.ensures ∙ ap (λ (b : Bool). if b then shape.key else 0) h in omega (arith, key)))
    c.in_ok-push_part-2.ensures (part_sized c.either-used.result shape.value c.past-last.result.now (λ h.
    let value : c.size_where-value.result ≡ shape.value = c.size_where-value.ensures ∙ ap (λ (b : Bool). if b then shape.value else 0) h in
    let size = ap (λ (bs : List ℕ). length bs) c.past-last.ensures ∙ length-drop c.size_where-key.result c.past-content.result.now in
    omega (arith, value, size)))
    many c.in_ok-noted.ensures.held c.in_ok-noted.ensures.left

pub returns-then-rest-cpus-clause-none : goal.returns-then-rest-cpus-clause-none
returns-then-rest-cpus-clause-none c runs t i more b =
    let enough = long c.args.shape c.args.cpus c.args.rest.now runs t i more b in let few = c.if-rest-cpus.true in absurd (omega arith)

pub returns-then-content-key-clause-none : goal.returns-then-content-key-clause-none
returns-then-content-key-clause-none c runs t i more b =
    let enough = fits c.args.shape c.args.cpus c.args.rest.now runs t i more b c.front-marks.result.now c.past-content.result.now
    c.past.result.now c.in_ok-noted.noted c.either-used.result c.size_where-key.result c.size_where-value.result
    c.front-marks.ensures c.past-content.ensures c.past.ensures c.in_ok-noted.ensures.noted c.size_where-key.ensures
    c.either-used.ensures c.size_where-value.ensures in
    let few = c.if-content-key.true in
    absurd (omega arith)
