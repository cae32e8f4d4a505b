-- Numbers: a session and a count within it, as one natural number.
use Rattle.std.specs.Prelude.{ℕ, ◌+◌, ◌*◌, ◌/◌, ◌%◌, ◌^◌}

-- the number of a count in a session
abbrev pub number_of : ℕ → ℕ → ℕ
number_of session count = session * 2 ^ 40 + count

-- the session of a number
abbrev pub session_of : ℕ → ℕ
session_of number = number / 2 ^ 40

-- the count of a number in its session
abbrev pub count_of : ℕ → ℕ
count_of number = number % 2 ^ 40
