-- How readings follow one another, what the reading of a stretch comes to, and what a reading of all the bytes says of the document. Assumes nothing.
use Rattle.std.specs.Prelude.{◌≡◌, ◌⊎◌, ◌↔◌, ℕ, zero, suc, ◌+◌, ◌-◌, ◌<◌, ◌≤◌, take, drop, get_or, Result}
use Rattle.std.specs.declared.result.Result.TheVariants.{Ok, Err}
use Rattle.std.proofs.Math.Path.{refl, ap, subst}
use Rattle.std.proofs.Common.{sym, ◌∙◌, add-one, arith, length-drop, take-append-drop, drop_of_length-le, drop-drop, take_all, length-take-le, get_or-take}
use Rattle.std.proofs.Common.{get_or-drop}
use mathlib.Core.List.{List, [], ◌∷◌, ◌++◌, append-nil, append_assoc}
use Rattle.std.proofs.Math.Logic.{inl, inr}
use Rattle.std.proofs.Math.Decide.{dec_lt}
use Rattle.std.proofs.Math.ListN.{length, length-append}
use Rattle.std.proofs.Math.Seq.{drop-append_seam}
use Rattle.answer.specs.declared.Answer.{Answer}
use Rattle.answer.specs.Numbers.{done, ends_early, left_over}
use Rattle.answer.specs.Answers.{Is}
use Rattle.answer.specs.Faults.{FaultAt}
use Rattle.answer.specs.Laws.{one-fault, no-fault}
use Rattle.fields.specs.declared.Read.{Read}
use Rattle.fields.specs.declared.Refused.{Refused}
use Rattle.fields.specs.Format.{Number, Refusal, Said, Format, Some}
use Rattle.fields.specs.Means.{Judging, Test, WrongByte, Entries, none, more, EntryFaults, here, later}
use Rattle.fields.specs.Combine.{give, ◌>>=◌, times}
use Rattle.fields.specs.Parts.{between, anything, made, stretch, together, by_byte, valued, first, low_first, first_two, byte, early, bytes}
use Rattle.fields.specs.Document.{alone}
use Rattle.fields.specs.Reading.{Met, read_to, refused_at, remade, next_of, Comes, Reads, ReadsSome, NumberRead, Ends}

module _ {A : Type 0} (F : Format A) (bs : List ℕ) where
  pub reads_at : {m : Result ℕ Refused} {a : ℕ} (o : Met A) → m ≡ Ok a → (a ≤ length bs → Comes F bs a o) → Reads F bs m o
  unfolding Reads
  reads_at o e f = subst (λ (x : Result ℕ Refused). Reads F bs x o) (sym e) f

  -- a refusal stays
  pub reads-stays : {m : Result ℕ Refused} {e : Refused} → m ≡ Err e → Reads F bs m (Err e)
  unfolding Reads
  reads-stays {e = e} p = subst (λ (x : Result ℕ Refused). Reads F bs x (Err e)) (sym p) refl

  pub reads-from : (a : ℕ) {m o : Met A} → m ≡ o → Reads F bs (Ok a) m → a ≤ length bs → Comes F bs a o
  unfolding Reads
  reads-from a e f h = subst (Comes F bs a) e (f h)

-- no bytes
pub reads-give : {A : Type 0} (v : A) (bs : List ℕ) (a : ℕ) → Reads (give v) bs (Ok a) (read_to v a)
unfolding Reads
reads-give v bs a = λ h. ([], drop a bs, refl, (refl, refl), omega arith)

-- what is left behind x
behind : (bs : List ℕ) (a b : ℕ) (x r : List ℕ) → drop a bs ≡ x ++ r → b ≡ a + length x → drop b bs ≡ r
behind bs a b x r e i = ap (λ (j : ℕ). drop j bs) i ∙ sym (drop-drop (length x) a bs) ∙ ap (drop (length x)) e ∙ drop-append_seam x r

module _ {A B : Type 0} (F : Format A) (G : A → Format B) (bs : List ℕ) where
  -- F is read, and then what its value names
  comes-then : (a b : ℕ) (o : Met B) (v : A) → a ≤ length bs → Comes F bs a (read_to v b)
      → (b ≤ length bs → Comes (G v) bs b o) → Comes (F >>= G) bs a o
  comes-then a b (Ok w) v h (x, r, e, t, i) g =
      let (y, q, e', u, i') = g (omega (arith, h, i, length-drop a bs, ap length e, length-append x r)) in
      let all = e ∙ ap (λ (l : List ℕ). x ++ l) (sym (behind bs a b x r e i) ∙ e') ∙ sym (append_assoc x y q) in
      (x ++ y, q, all, (x, y, v, refl, t, u), omega (arith, i, i', length-append x y))
  comes-then a b (Err n) v h (x, r, e, t, i) g =
      let (j, f, i') = g (omega (arith, h, i, length-drop a bs, ap length e, length-append x r)) in
      let there = subst (λ (l : List ℕ). (G v).Faults l n.number j) (behind bs a b x r e i) f in
      (length x + j, inr (x, r, v, j, e, t, there, refl), omega (arith, i, i'))

  pub reads_then : (m : Result ℕ Refused) (v : A) (b : ℕ) (o : Met B) → Reads F bs m (read_to v b) → Reads (G v) bs (Ok b) o → Reads (F >>= G) bs m o
  unfolding Reads
  reads_then (Err e) v b o f g = absurd (cc)
  reads_then (Ok a) v b o f g = λ h. comes-then a b o v h (f h) g

  -- where the front is refused, the whole is refused, with the same number and place
  pub then-refused : (m : Result ℕ Refused) (e : Refused) → Reads F bs m (Err e) → Reads (F >>= G) bs m (Err e)
  unfolding Reads
  then-refused (Err n) e f = cc
  then-refused (Ok a) e f = λ h. let (j, x, i) = f h in (j, inl x, i)

-- a value made of F's
pub reads_made : {A B : Type 0} (F : Format A) (make : A → B) (bs : List ℕ) (m : Result ℕ Refused) (o : Met A) → Reads F bs m o
    → Reads (F >>= λ u. give (make u)) bs m (remade make o)
reads_made F make bs m (Ok r) f = reads_then F (λ u. give (make u)) bs m r.value r.next (remade make (Ok r)) f (reads-give (make r.value) bs r.next)
reads_made F make bs m (Err e) f = then-refused F (λ u. give (make u)) bs m e f

-- one more of so many
module _ {A : Type 0} (F : ℕ → Format A) (bs : List ℕ) (m : Result ℕ Refused) where
  pub reads_more : (k : ℕ) (vs : List A) (b : ℕ) (v : A) (c : ℕ)
      → Reads (times k F) bs m (read_to vs b) → Reads (F k) bs (Ok b) (read_to v c) → Reads (times (k + 1) F) bs m (read_to (vs ++ (v ∷ [])) c)
  reads_more k vs b v c f g =
      let all : List A = vs ++ (v ∷ []) in
      let last = reads_made (F k) (λ u. vs ++ (u ∷ [])) bs (Ok b) (read_to v c) g in
      subst (λ (i : ℕ). Reads (times i F) bs m (read_to all c)) (sym (add-one k))
      (reads_then (times k F) (λ us. F k >>= λ u. give (us ++ (u ∷ []))) bs m vs b (read_to all c) f last)

  -- where so many are refused, one more is; and so are any that are more
  pub one-more-refused : (k : ℕ) (e : Refused) → Reads (times k F) bs m (Err e) → Reads (times (suc k) F) bs m (Err e)
  one-more-refused k e f = then-refused (times k F) (λ us. F k >>= λ u. give (us ++ (u ∷ []))) bs m e f

  more-refused : (k n : ℕ) (e : Refused) → k ≤ n → Reads (times k F) bs m (Err e) → Reads (times n F) bs m (Err e)
  more-refused k zero e h f = let z : k ≡ 0 = omega arith in subst (λ (i : ℕ). Reads (times i F) bs m (Err e)) z f
  more-refused k (suc n) e h f = go (λ l. more-refused k n e l f) (dec_lt n k)
    where
      go : (k ≤ n → Reads (times n F) bs m (Err e)) → Dec (n < k) → Reads (times (suc n) F) bs m (Err e)
      go before (yes l) = let z : k ≡ suc n = omega arith in subst (λ (i : ℕ). Reads (times i F) bs m (Err e)) z f
      go before (no l) = one-more-refused n e (before (omega arith))

  -- the next is refused, and so are all
  pub times-refused : (k n : ℕ) (vs : List A) (b : ℕ) (e : Refused) → k < n
      → Reads (times k F) bs m (read_to vs b) → Reads (F k) bs (Ok b) (Err e) → Reads (times n F) bs m (Err e)
  times-refused k n vs b e h f g =
      let last = then-refused (F k) (λ u. give (vs ++ (u ∷ []))) bs (Ok b) e g in
      let one = reads_then (times k F) (λ us. F k >>= λ u. give (us ++ (u ∷ []))) bs m vs b (Err e) f last in
      more-refused (suc k) n e (omega arith) one

-- m bytes: all there and good; wrong at a place; or nothing that is there is wrong, and the rest is missing
module _ (m : ℕ) (J : Judging m) (refusal : Refusal) (bs : List ℕ) (a : ℕ) where
  pub stretch-good : a + m ≤ length bs → J.Good (take m (drop a bs)) → Comes (stretch m J refusal) bs a (read_to (take m (drop a bs)) (a + m))
  stretch-good h g =
      let l : length (take m (drop a bs)) ≡ m = length-take-le m (drop a bs) (omega (arith, h, length-drop a bs)) in
      (take m (drop a bs), drop m (drop a bs), sym (take-append-drop m (drop a bs)), (l, g, refl), omega (arith, l))

  pub stretch-wrong : (k : ℕ) → J.Wrong (take m (drop a bs)) k → Comes (stretch m J refusal) bs a (refused_at refusal.number (a + k))
  stretch-wrong k w = (k, inl (w, refl), refl)

  pub stretch-early : a ≤ length bs → length bs < a + m → ((j : ℕ) → J.Wrong (drop a bs) j → ⊥)
      → Comes (stretch m J refusal) bs a (refused_at ends_early (length bs))
  stretch-early h l fine = (length bs - a, inr (omega (arith, h, l, length-drop a bs), fine, (refl, sym (length-drop a bs))), omega arith)

-- a value of m bytes: in order, not in order, not all there
module _ (m : ℕ) {A : Type 0} (make : List ℕ → A) (t : Test A) (refusal : Refusal) (bs : List ℕ) (a : ℕ) where
  abbrev there : List ℕ
  there = take m (drop a bs)

  pub value-good : a + m ≤ length bs → t.holds (make there) → Comes (valued m make t refusal) bs a (read_to (make there) (a + m))
  value-good h g =
      let (x, r, e, u, i) = stretch-good m (together m (made make t)) refusal bs a h g in
      (x, r, e, (x, [], there, sym (append-nil x), u, (refl, refl)), i)

  pub value-missing : a ≤ length bs → length bs < a + m → Comes (valued m make t refusal) bs a (refused_at ends_early (length bs))
  value-missing h l =
      let (j, f, i) = stretch-early m (together m (made make t)) refusal bs a h l (λ j w. omega (arith, w.0, l, length-drop a bs)) in
      (j, inl f, i)

-- the bytes of a number, as they stand
abbrev pub byte_at : List ℕ → ℕ → ℕ
byte_at bs a = get_or bs a 0

abbrev pub word_at : List ℕ → ℕ → ℕ
word_at bs a = low_first (get_or bs a 0) (get_or bs (a + 1) 0)

pub byte-there : (bs : List ℕ) (a : ℕ) → first (take 1 (drop a bs)) ≡ byte_at bs a
byte-there bs a =
    let e : a + 0 ≡ a = omega arith in
    get_or-take 1 (drop a bs) 0 0 (omega arith) ∙ get_or-drop a bs 0 0 ∙ ap (λ (i : ℕ). get_or bs i 0) e

pub word-there : (bs : List ℕ) (a : ℕ) → first_two (take 2 (drop a bs)) ≡ word_at bs a
word-there bs a =
    let e : a + 0 ≡ a = omega arith in
    let low = get_or-take 2 (drop a bs) 0 0 (omega arith) ∙ get_or-drop a bs 0 0 ∙ ap (λ (i : ℕ). get_or bs i 0) e in
    let high = get_or-take 2 (drop a bs) 1 0 (omega arith) ∙ get_or-drop a bs 1 0 in
    omega (arith, low, high)

-- what is refused is not read
pub not-read : {A : Type 0} {e : Refused} {a : A} → ◌≡◌ {A = Result A Refused} (Err e) (Ok a) → ⊥
not-read e = cc

-- how a number of m bytes is read: it is not met, not all there, out of its range, or in it
abbrev pub ranged : (m : ℕ) (make : List ℕ → ℕ) (low high number : ℕ) → Number number → Format ℕ
ranged m make low high number d = valued m make (between low high) (record { number = number; listed = d })

module _ (m : ℕ) (make : List ℕ → ℕ) (bs : List ℕ) {from : Result ℕ Refused} (low high number : ℕ) where
  pub number-stays : {e : Refused} → from ≡ Err e → NumberRead (valued m make) bs from low high number (Err e)
  number-stays p = record { reads = λ d. reads-stays (ranged m make low high number d) bs p; in_range = tt }

  pub number-early : {a : ℕ} → from ≡ Ok a → length bs < a + m → NumberRead (valued m make) bs from low high number (refused_at ends_early (length bs))
  number-early {a} e l = record {
    reads = λ d. reads_at (ranged m make low high number d) bs (refused_at ends_early (length bs)) e (λ h.
        value-missing m make (between low high) (record { number = number; listed = d }) bs a h l);
    in_range = tt;
  }

-- where its bytes are there, its value stands there
module _ (m : ℕ) (make : List ℕ → ℕ) (stands : List ℕ → ℕ → ℕ) (there : (bs : List ℕ) (a : ℕ) → make (take m (drop a bs)) ≡ stands bs a)
    (bs : List ℕ) {from : Result ℕ Refused} (low high number : ℕ) {a : ℕ} (e : from ≡ Ok a) (v : ℕ) (is : v ≡ stands bs a) (all : a + m ≤ length bs)
  where
    same : v ≡ make (take m (drop a bs))
    same = is ∙ sym (there bs a)

    pub number_in : low ≤ v → v ≤ high → NumberRead (valued m make) bs from low high number (read_to v (a + m))
    number_in f g = record {
      reads = λ d.
          let refusal : Refusal = record { number = number; listed = d } in
          let good = value-good m make (between low high) refusal bs a all (subst (between low high).holds same (f, g)) in
          let G : Format ℕ = ranged m make low high number d in
          reads_at G bs (read_to v (a + m)) e (λ _. subst (λ (u : ℕ). Comes G bs a (read_to u (a + m))) (sym same) good);
      in_range = (f, g, all);
    }

-- so many bytes of any content
module _ (m : ℕ) (bs : List ℕ) {from : Result ℕ Refused} where
  pub bytes-stay : {e : Refused} → from ≡ Err e → ReadsSome (bytes m) bs from (Err e)
  bytes-stay p = reads-stays (bytes m) bs p

  module _ {a : ℕ} (e : from ≡ Ok a) where
    pub bytes_past : (o : Result ℕ Refused) → length bs < a → ReadsSome (bytes m) bs from o
    bytes_past (Ok b) l = ([], reads_at (bytes m) bs (read_to [] b) e (λ h. absurd (omega arith)))
    bytes_past (Err n) l = reads_at (bytes m) bs (Err n) e (λ h. absurd (omega arith))

    pub bytes-early : length bs < a + m → ReadsSome (bytes m) bs from (refused_at ends_early (length bs))
    bytes-early h =
        reads_at (bytes m) bs (refused_at ends_early (length bs)) e (λ l.
        stretch-early m (together m anything) early bs a l h (λ j w. w.1 tt))

    pub bytes-there : a + m ≤ length bs → ReadsSome (bytes m) bs from (Ok (a + m))
    bytes-there h =
        let there : List ℕ = take m (drop a bs) in
        (there, reads_at (bytes m) bs (read_to there (a + m)) e (λ l. stretch-good m (together m anything) early bs a h tt))

-- m bytes that are judged one by one: all there, and legal or at fault; or not all there, with a fault so far or none
module _ (m : ℕ) (Legal : List ℕ → Type 0) (judge : (l : List ℕ) → Legal l ⊎ ((k : ℕ) × FaultAt Legal l k)) (refusal : Refusal) (bs : List ℕ) (a : ℕ) where
  abbrev legal : Format (List ℕ)
  legal = stretch m (by_byte m Legal judge) refusal

  pub legal-there : a + m ≤ length bs → Legal (take m (drop a bs)) → Comes legal bs a (read_to (take m (drop a bs)) (a + m))
  legal-there h g = stretch-good m (by_byte m Legal judge) refusal bs a h g

  pub fault-there : (k : ℕ) → a + m ≤ length bs → FaultAt Legal (take m (drop a bs)) k → Comes legal bs a (refused_at refusal.number (a + k))
  fault-there k h f =
      let l : length (take m (drop a bs)) ≡ m = length-take-le m (drop a bs) (omega (arith, h, length-drop a bs)) in
      stretch-wrong m (by_byte m Legal judge) refusal bs a k (f, inr l)

  pub fault-so-far : (k : ℕ) → a ≤ length bs → length bs < a + m → k < length (drop a bs) → FaultAt Legal (drop a bs) k
      → Comes legal bs a (refused_at refusal.number (a + k))
  fault-so-far k h l i f =
      let all : take m (drop a bs) ≡ drop a bs = take_all m (drop a bs) (omega (arith, h, l, length-drop a bs)) in
      stretch-wrong m (by_byte m Legal judge) refusal bs a k (subst (λ (x : List ℕ). WrongByte m Legal x k) (sym all) (f, inl i))

  -- none so far: they are legal as they are, or at fault only in that they end
  pub none_so_far : a ≤ length bs → length bs < a + m → Legal (drop a bs) ⊎ FaultAt Legal (drop a bs) (length (drop a bs))
      → Comes legal bs a (refused_at ends_early (length bs))
  none_so_far h l w = stretch-early m (by_byte m Legal judge) refusal bs a h l (λ j (f, i). go w j f i)
    where
      go : Legal (drop a bs) ⊎ FaultAt Legal (drop a bs) (length (drop a bs)) → (j : ℕ) → FaultAt Legal (drop a bs) j
          → (j < length (drop a bs)) ⊎ (length (drop a bs) ≡ m) → ⊥
      go (inl g) j f i = no-fault Legal (drop a bs) g f
      go (inr e) j f (inl i) = omega (arith, i, one-fault Legal (drop a bs) j (length (drop a bs)) f e)
      go (inr e) j f (inr i) = omega (arith, h, l, i, length-drop a bs)

-- the same byte under another test that says as much
module _ (t s : Test ℕ) (same : (v : ℕ) → t.holds v ↔ s.holds v) (refusal : Refusal) (bs : List ℕ) where
  faults-as : (a n j : ℕ) → (byte t refusal).Faults (drop a bs) n j → (byte s refusal).Faults (drop a bs) n j
  faults-as a n j (inl (inl (w, e))) = inl (inl ((w.0, (λ g. w.1 ((same (first (take 1 (drop a bs)))).1 g)), w.2), e))
  faults-as a n j (inl (inr (l, fine, e))) = inl (inr (l, (λ i w. omega (arith, l, w.0)), e))
  faults-as a n j (inr (y, r, c, i, e, u, f, p)) = absurd f

  pub byte-as : (m : Result ℕ Refused) (o : Met ℕ) → Reads (byte t refusal) bs m o → Reads (byte s refusal) bs m o
  unfolding Reads
  byte-as (Err e) o f = f
  byte-as (Ok a) (Ok b) f = λ h.
      let (x, r, e, (y, z, l, p, (i, g, q), u), j) = f h in
      (x, r, e, (y, z, l, p, (i, (same (first y)).0 g, q), u), j)
  byte-as (Ok a) (Err e) f = λ h. let (j, g, i) = f h in (j, faults-as a e.number j g, i)

-- what is said of the bytes behind a place holds of the whole list, further on: the entries before it are taken
pub record Passed {A : Type 0} (F : Format A) (bs : List ℕ) (at : ℕ) : Type 0 where
  pub within : at ≤ length bs
  pub faults : (n j : ℕ) → EntryFaults F (drop at bs) n j → EntryFaults F bs n (at + j)
  pub taken : (vs : List A) → Entries F (drop at bs) vs → Said (Entries F) bs

module _ {A : Type 0} (F : Format A) (bs : List ℕ) where
  pub passed_none : Passed F bs 0
  passed_none = record {
    within = omega arith;
    faults = λ n j f. let e : j ≡ 0 + j = omega arith in subst (λ (k : ℕ). EntryFaults F bs n k) e f;
    taken = λ vs t. (vs, t);
  }

  -- one entry more, which has a byte
  pub passed-more : Some F → (at next : ℕ) (v : A) → Passed F bs at → Comes F bs at (read_to v next) → Passed F bs next × (at < next)
  passed-more some at next v w (x, r, e, t, i) = (
    record {
      within = omega (arith, w.within, i, length-drop at bs, ap length e, length-append x r);
      faults = λ n j f.
          let q : at + (length x + j) ≡ next + j = omega (arith, i) in
          let one = later e t (subst (λ (l : List ℕ). EntryFaults F l n j) rest f) refl in
          subst (λ (k : ℕ). EntryFaults F bs n k) q (w.faults n (length x + j) one);
      taken = λ vs u. w.taken (v ∷ vs) (more e t (subst (λ (l : List ℕ). Entries F l vs) rest u));
    },
    go x t i,
  )
    where
      rest : drop next bs ≡ r
      rest = behind bs at next x r e i

      go : (x : List ℕ) → F.Takes x v → next ≡ at + length x → at < next
      go [] t i = absurd (some v t)
      go (c ∷ x) t i = omega (arith, i)

  -- an entry at fault
  pub passed-fault : (at n k : ℕ) → Passed F bs at → at < length bs → Comes F bs at (refused_at n k) → EntryFaults F bs n k
  passed-fault at n k w h (j, f, i) =
      let some : drop at bs ≡ [] → ⊥ = λ z. omega (arith, h, length-drop at bs, ap length z) in
      subst (λ (l : ℕ). EntryFaults F bs n l) (sym i) (w.faults n j (here some f))

  -- the end
  pub passed-all : (at : ℕ) → Passed F bs at → length bs ≤ at → Said (Entries F) bs
  passed-all at w h = w.taken [] (subst (λ (l : List ℕ). Entries F l []) (sym (drop_of_length-le bs h)) none)

-- a whole document: F is read from the start, and nothing is to follow
module _ {A : Type 0} (F : Format A) (bs : List ℕ) where
  pub alone-read : (v : A) (b : ℕ) → Reads F bs (Ok 0) (read_to v b) → length bs ≤ b → F.Takes bs v
  unfolding Reads
  alone-read v b f h =
      let (x, r, e, t, i) = f (omega arith) in
      go x r e t (omega (arith, h, i, ap length e, length-append x r))
    where
      go : (x r : List ℕ) → bs ≡ x ++ r → F.Takes x v → length r ≤ 0 → F.Takes bs v
      go x [] e t l = subst (λ (y : List ℕ). F.Takes y v) (sym (e ∙ append-nil x)) t
      go x (c ∷ r) e t l = absurd (omega arith)

  -- bytes left over
  pub alone-over : (v : A) (b : ℕ) → Reads F bs (Ok 0) (read_to v b) → b < length bs → (alone F).Refuses bs left_over b
  unfolding Reads
  alone-over v b f h =
      let (x, r, e, t, i) = f (omega arith) in
      inr (x, r, v, e, t, (λ z. omega (arith, h, i, ap length e, length-append x r, ap length z)), refl, omega (arith, i))

  -- a fault
  pub alone-faults : (n k : ℕ) → Reads F bs (Ok 0) (refused_at n k) → (alone F).Refuses bs n k
  unfolding Reads
  alone-faults n k f =
      let (j, x, i) = f (omega arith) in
      inl (subst (λ (l : ℕ). F.Faults bs n l) (omega (arith, i)) x)

  -- the answer is done, and what is read is what the bytes say; or it is the document's refusal
  pub alone-ends : (o : Met A) (a : Answer) → Reads F bs (Ok 0) o → Ends bs (next_of o) a
      → ((r : Read A) × (o ≡ Ok r) × F.Takes bs r.value × Is a done 0) ⊎ ((n : ℕ) × (k : ℕ) × (alone F).Refuses bs n k × Is a n k)
  alone-ends (Ok r) a f (inl (h, i)) = inl (r, refl, alone-read r.value r.next f h, i)
  alone-ends (Ok r) a f (inr (h, i)) = inr (left_over, r.next, alone-over r.value r.next f h, i)
  alone-ends (Err e) a f i = inr (e.number, e.place, alone-faults e.number e.place f, i)

-- how that answer is given
module _ (bs : List ℕ) {o : Result ℕ Refused} {a : Answer} where
  pub ends-refused : {e : Refused} → o ≡ Err e → Is a e.number e.place → Ends bs o a
  ends-refused e i = subst (λ (m : Result ℕ Refused). Ends bs m a) (sym e) i

  pub ends-done : {b : ℕ} → o ≡ Ok b → length bs ≤ b → Is a done 0 → Ends bs o a
  ends-done e h i = subst (λ (m : Result ℕ Refused). Ends bs m a) (sym e) (inl (h, i))

  pub ends-over : {b : ℕ} → o ≡ Ok b → b < length bs → Is a left_over b → Ends bs o a
  ends-over e h i = subst (λ (m : Result ℕ Refused). Ends bs m a) (sym e) (inr (h, i))
