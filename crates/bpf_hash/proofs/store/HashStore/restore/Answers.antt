use Rattle.std.proofs.Common.{length, subst, sym, arith}
use Rattle.std.proofs.lemmas.List.{take_all}
use Rattle.bpf_hash.specs.Private.Saved.{IsSavedAs}
use Rattle.bpf_hash.proofs.SavedNormal.{read_or_none}
use Rattle.bpf_hash.proofs.store.HashStore.restore.Goals as goal

pub returns-clause-ok : goal.returns-clause-ok
returns-clause-ok c p same is =
    let bytes = c.args.bytes.now in
    read_or_none c.args.self.now c.read.new.self bytes c.in_ok-read.field-0 c.in_ok-read.ensures.read c.in_ok-read.ensures.none (length bytes) p
    (record { shape = same; saved = subst (IsSavedAs p) (sym (take_all (length bytes) bytes (omega arith))) is })
