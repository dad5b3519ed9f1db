-- What holds of a result, from what is known of it.
use Rattle.std.proofs.Common.{Result, Ok, Err, String, Global}
use Rattle.std.specs.Prelude.{IfOk, IfErr}
use Rattle.bpf_debug.specs.declared.error.DebugError.{DebugError}

pub ok_weaker : (P Q : String Global → Type 0) (r : Result (String Global) DebugError) → ((s : String Global) → P s → Q s) → IfOk r P → IfOk r Q
ok_weaker P Q (Ok s) f h = f s h
ok_weaker P Q (Err e) f h = tt

pub err_weaker : (P Q : DebugError → Type 0) (r : Result (String Global) DebugError) → ((e : DebugError) → P e → Q e) → IfErr r P → IfErr r Q
err_weaker P Q (Ok s) f h = tt
err_weaker P Q (Err e) f h = f e h
