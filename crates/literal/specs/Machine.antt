-- One step of the unescaper: what a state does with a byte.
use Rattle.std.specs.Prelude.{ℕ, ◌+◌, ◌-◌, ◌*◌, ◌<◌, cond, List, length, Some, None, Ok, Err, Option, Result, ◌==◌}
use Rattle.std.specs.Option.{option_map}
use Rattle.literal.specs.declared.unescape.State.{State}
use Rattle.literal.specs.declared.unescape.State.TheVariants.{Plain, AfterBackslash, AfterX, AfterDigit}
use Rattle.literal.specs.declared.unescape.Step.{Step}
use Rattle.literal.specs.declared.unescape.Step.TheVariants.{Emit, Go}
use Rattle.literal.specs.Escapes.{simple, hex_of, reading}
use Rattle.literal.specs.Texts.{or_else}

abbrev pub step_of : State → ℕ → Option Step
step_of Plain b = Some (cond (b == 92) (Go AfterBackslash) (Emit b))
step_of AfterBackslash b = or_else (simple b) (λ d. Some (Emit d)) (cond (b == 120) (Some (Go AfterX)) None)
step_of AfterX b = option_map (λ v. Go (AfterDigit v)) (hex_of b)
step_of (AfterDigit h) b = option_map (λ v. Emit (16 * h + v)) (hex_of b)

-- how many bytes of an escape came before
abbrev pub held_by : State → ℕ
held_by Plain = 0
held_by AfterBackslash = 1
held_by AfterX = 2
held_by (AfterDigit h) = 3

-- a digit that a state holds is one
abbrev pub Small : State → Type 0
Small Plain = Unit {0}
Small AfterBackslash = Unit {0}
Small AfterX = Unit {0}
Small (AfterDigit h) = h < 16

abbrev pub SmallStep : Step → Type 0
SmallStep (Emit d) = Unit {0}
SmallStep (Go s) = Small s

-- how many bytes a text stands for, or where its first bad escape begins
abbrev pub count_of : List ℕ → Result ℕ ℕ
count_of t = or_else (reading t).stop (λ rest. Err (length t - length rest)) (Ok (length (reading t).bytes))
