use Rattle.std.proofs.Common.{◌≡◌, ℕ, ◌+◌, ◌<◌, Bool, true, false, List, [], ◌∷◌, length, map, slice_index_or, sym, ap, subst, ◌∙◌, arith}
use Rattle.std.proofs.lemmas.List.{map-append, get_or_read}
use Rattle.std.specs.Prelude.{Vec}
use Rattle.std.specs.declared.alloc.Global.{Global}
use Rattle.bpf_hash.specs.Private.Rows.{Rows, IsTable, key_of, bytes_of}
use Rattle.bpf_shared.specs.Listing.{pair_of}
use Rattle.bpf_hash.specs.Private.Pairs.{row_pair, ArePairsBelow}
use Rattle.bpf_hash.proofs.Sorting.{pairs_more, pairs_past, pairs_all}
use Rattle.bpf_hash.proofs.table.Table.unsorted_pairs.Goals as goal
use Rattle.bpf_hash.proofs.table.Table.unsorted_pairs.Goals.{then-index+in_ok-key+in_ok-value+in_ok-push, else-index}

pub loop-element-preserved : goal.loop-element-preserved
loop-element-preserved c =
    let t = c.args.self.now in
    let i = c.loop-element.element in
    let is : IsTable t = subst IsTable c.self.view_is c.self.invariant.0 in
    let old = c.loop-element.pairs.items in
    let marks : c.self.inside.linked.items ≡ t.linked = ap (λ (r : Rows). r.linked) c.self.view_is in
    let inside : i < length c.self.inside.linked.items = omega (arith, c.loop-element-test.true, c.len-element-end.ensures, c.self.inside.linked.ok.0) in
    let read : c.index.result.now ≡ slice_index_or t.linked i false = get_or_read c.self.inside.linked.items i c.index.result.now inside
    c.index.ensures false ∙ ap (λ (l : List Bool). slice_index_or l i false) marks in
    elim c.if-index.branch [
      | then-index+in_ok-key+in_ok-value+in_ok-push w ↦
          let x : Vec ℕ Global × Vec ℕ Global = (w.in_ok-key.key, w.in_ok-value.value) in
          let key : w.in_ok-key.key.items ≡ key_of t i = w.in_ok-key.ensures.items_if_clones_equal (λ y z e. e) ∙ w.key.ensures in
          let value : w.in_ok-value.value.items ≡ bytes_of t i = w.in_ok-value.ensures.items_if_clones_equal (λ y z e. e) ∙ w.value.ensures.value in
          let pair : pair_of x ≡ row_pair t i = λ j. (key j, value j) in
          let more = pairs_more t is i (map pair_of old) (pair_of x) (sym read ∙ w.if-index.true) pair c.loop-element.invariant in
          subst (λ (ps : Vec (Vec ℕ Global × Vec ℕ Global) Global). ArePairsBelow t (i + 1) (map pair_of ps.items)) (sym w.pairs-is)
          (subst (λ (ps : List (Vec ℕ Global × Vec ℕ Global)). ArePairsBelow t (i + 1) (map pair_of ps)) (sym w.in_ok-push.ensures.items)
          (subst (ArePairsBelow t (i + 1)) (sym (map-append pair_of old (x ∷ []))) more))
      | else-index w ↦ subst (λ (ps : Vec (Vec ℕ Global × Vec ℕ Global) Global). ArePairsBelow t (i + 1) (map pair_of ps.items)) (sym w.pairs-is)
          (pairs_past t i (map pair_of old) (λ l. (let f : false ≡ true = sym w.if-index.false ∙ (read ∙ l) in cc)) c.loop-element.invariant)
    ]

pub returns : goal.returns
returns c =
    let t = c.args.self.now in
    let marks : length c.self.inside.linked.items ≡ length t.linked = ap (λ (r : Rows). length r.linked) c.self.view_is in
    pairs_all t c.loop-element.element (map pair_of c.loop-element.pairs.items)
    (omega (arith, c.loop-element-test.false, c.len-element-end.ensures, c.self.inside.linked.ok.0, marks)) c.loop-element.invariant
