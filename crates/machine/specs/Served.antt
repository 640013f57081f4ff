-- Which request a code and its arguments stand for. Definitions only.
use Rattle.std.specs.Prelude.{cond, List, ℕ, eqb}
use Rattle.machine.specs.Machine.{Request, load, begin, end, ask, change, bypass}

-- 0 load x; 1 begin slot a; 2 end slot; 3 ask slot a b; 4 change slot a b x y; any other bypass slot a b x y. What a request does not take has no say
abbrev pub request_of : ℕ → ℕ → ℕ → ℕ → List ℕ → List ℕ → Request
request_of code slot a b x y =
    cond (eqb code 0) (load x)
    (cond (eqb code 1) (begin slot a)
    (cond (eqb code 2) (end slot)
    (cond (eqb code 3) (ask slot a b)
    (cond (eqb code 4) (change slot a b x y)
    (bypass slot a b x y)))))
