-- What can be explained: a code by its spelling, or an error, a flag, a helper or a word of run files
-- by its name. The names are those of Linux (errno(3), bpf(2), bpf-helpers(7)), or our own.
use Rattle.std.specs.Prelude.{ℕ, Bool, ◌||◌, List, find, Option, Some, None, codes}
use Rattle.std.specs.Str.{bytes_eq}
use Rattle.bpf_codes.specs.Code.{code_of}
use Rattle.bpf_codes.specs.declared.code.Code.{Code}
use Rattle.bpf_explain.specs.declared.term.Term.{Term}
use Rattle.bpf_explain.specs.declared.term.Term.TheVariants as term
use Rattle.bpf_explain.specs.declared.term.TheConstants.{TERMS}
use Rattle.bpf_explain.specs.declared.topic.Topic.{Topic}
use Rattle.bpf_explain.specs.declared.topic.Topic.TheVariants as topic

abbrev pub term_text : Term → List ℕ
term_text term.Enoent = codes "ENOENT"
term_text term.TooBig = codes "E2BIG"
term_text term.Enomem = codes "ENOMEM"
term_text term.Ebusy = codes "EBUSY"
term_text term.Eexist = codes "EEXIST"
term_text term.Einval = codes "EINVAL"
term_text term.Eperm = codes "EPERM"
term_text term.Any = codes "BPF_ANY"
term_text term.NoExist = codes "BPF_NOEXIST"
term_text term.Exist = codes "BPF_EXIST"
term_text term.Lookup = codes "bpf_map_lookup_elem"
term_text term.Update = codes "bpf_map_update_elem"
term_text term.Delete = codes "bpf_map_delete_elem"
term_text term.ProcessorId = codes "bpf_get_smp_processor_id"
term_text term.Time = codes "bpf_ktime_get_ns"
term_text term.Trace = codes "bpf_trace_printk"
term_text term.Random = codes "bpf_get_prandom_u32"
term_text term.Process = codes "bpf_get_current_pid_tgid"
term_text term.User = codes "bpf_get_current_uid_gid"
term_text term.Lock = codes "bpf_spin_lock"
term_text term.Unlock = codes "bpf_spin_unlock"
term_text term.BootTime = codes "bpf_ktime_get_boot_ns"
term_text term.Spare = codes "spare"
term_text term.Packet = codes "packet"
term_text term.Xdp = codes "xdp"
term_text term.Tc = codes "tc"

-- helpers have the shorter names that assembly takes, too
abbrev pub short_text : Term → List ℕ
short_text term.Lookup = codes "lookup"
short_text term.Update = codes "update"
short_text term.Delete = codes "delete"
short_text term.ProcessorId = codes "cpu"
short_text term.Time = codes "ktime_get_ns"
short_text term.Trace = codes "trace_printk"
short_text term.Random = codes "get_prandom_u32"
short_text term.Process = codes "get_current_pid_tgid"
short_text term.User = codes "get_current_uid_gid"
short_text term.Lock = codes "spin_lock"
short_text term.Unlock = codes "spin_unlock"
short_text term.BootTime = codes "ktime_get_boot_ns"
short_text t = term_text t

abbrev pub is_called : Term → List ℕ → Bool
is_called t name = bytes_eq (term_text t) name || bytes_eq (short_text t) name

unfoldable pub term_of : List ℕ → Option Term
term_of name = find (λ t. is_called t name) TERMS

abbrev pub or_term : Option Code → Option Term → Option Topic
or_term (Some code) t = Some (topic.Code code)
or_term None (Some t) = Some (topic.Term t)
or_term None None = None

-- a code, or else a term
unfoldable pub topic_of : List ℕ → Option Topic
topic_of name = or_term (code_of name) (term_of name)
