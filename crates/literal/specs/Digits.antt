-- Numbers written in digits.
use Rattle.std.specs.Prelude.{ℕ, ◌+◌, ◌*◌, ◌^◌, Bool, true, cond, ◌&&◌, List, [], ◌∷◌, length, Some, None, Option, ◌==◌, nat_le, nat_lt}
use Rattle.std.specs.Char.{digit_value}

-- the number that digits write in a base: each counts by its place
abbrev pub number_of : ℕ → List ℕ → ℕ
number_of base [] = 0
number_of base (d ∷ ds) = digit_value d * base ^ length ds + number_of base ds

-- whether all of a text are digits of a base
abbrev pub are_digits : ℕ → List ℕ → Bool
are_digits base [] = true
are_digits base (d ∷ ds) = nat_lt (digit_value d) base && are_digits base ds

-- the number that a text writes in a base, if it is one digit or more
abbrev pub written : ℕ → List ℕ → Option ℕ
written base ds = cond (are_digits base ds && nat_lt 0 (length ds)) (Some (number_of base ds)) None

-- a text without its underscores
abbrev pub without : List ℕ → List ℕ
without [] = []
without (b ∷ bs) = cond (b == 95) (without bs) (b ∷ without bs)

-- a number that is at most `top`
abbrev pub up_to : ℕ → Option ℕ → Option ℕ
up_to top None = None
up_to top (Some n) = cond (nat_le n top) (Some n) None
