-- Bytes are those of one expression at most. Assumes nothing.
use Rattle.std.specs.Prelude.{◌≡◌, List, [], ◌++◌, ℕ}
use Rattle.std.proofs.Common.{sym, ap, ap₂, ◌∙◌, append_assoc, append-nil, arith}
use Rattle.expression.specs.Expression.{one, range, Expr, term, ◌AND◌, ◌OR◌}
use Rattle.expression.specs.Bytes.{bytes}
use Rattle.expression.specs.Scan.{head-is, tail-is}

-- two that stand at one front are one, and so is what comes after
pub one-front : (e f : Expr) (r s : List ℕ) → bytes e ++ r ≡ bytes f ++ s → (e ≡ f) × (r ≡ s)
one-front (term (one a)) (term (one b)) r s q =
    let t = tail-is q in (ap (λ (x : ℕ). term (one x)) (head-is t), tail-is t)
one-front (term (one a)) (term (range b i j)) r s q = absurd (let h = head-is q in omega arith)
one-front (term (one a)) (c AND d) r s q = absurd (let h = head-is q in omega arith)
one-front (term (one a)) (c OR d) r s q = absurd (let h = head-is q in omega arith)
one-front (term (range a k l)) (term (one b)) r s q = absurd (let h = head-is q in omega arith)
one-front (term (range a k l)) (term (range b i j)) r s q = (cc, cc)
one-front (term (range a k l)) (c AND d) r s q = absurd (let h = head-is q in omega arith)
one-front (term (range a k l)) (c OR d) r s q = absurd (let h = head-is q in omega arith)
one-front (a AND b) (term (one x)) r s q = absurd (let h = head-is q in omega arith)
one-front (a AND b) (term (range x i j)) r s q = absurd (let h = head-is q in omega arith)
one-front (a AND b) (c AND d) r s q =
    let o = one-front a c (bytes b ++ r) (bytes d ++ s) (sym (append_assoc (bytes a) (bytes b) r) ∙ tail-is q ∙ append_assoc (bytes c) (bytes d) s) in
    let p = one-front b d r s o.1 in
    (ap₂ ◌AND◌ o.0 p.0, p.1)
one-front (a AND b) (c OR d) r s q = absurd (let h = head-is q in omega arith)
one-front (a OR b) (term (one x)) r s q = absurd (let h = head-is q in omega arith)
one-front (a OR b) (term (range x i j)) r s q = absurd (let h = head-is q in omega arith)
one-front (a OR b) (c AND d) r s q = absurd (let h = head-is q in omega arith)
one-front (a OR b) (c OR d) r s q =
    let o = one-front a c (bytes b ++ r) (bytes d ++ s) (sym (append_assoc (bytes a) (bytes b) r) ∙ tail-is q ∙ append_assoc (bytes c) (bytes d) s) in
    let p = one-front b d r s o.1 in
    (ap₂ ◌OR◌ o.0 p.0, p.1)

pub one-expression : (e f : Expr) → bytes e ≡ bytes f → e ≡ f
one-expression e f q = (one-front e f [] [] (append-nil (bytes e) ∙ q ∙ sym (append-nil (bytes f)))).0
