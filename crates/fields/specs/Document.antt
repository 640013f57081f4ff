-- All the bytes of an image or a list: a format with nothing behind it, or entries to the end; and the answer that a reader of one gives. Definitions only.
use Rattle.std.specs.Prelude.{refl, List, [], ◌⊎◌, ℕ, length}
use Rattle.std.proofs.Common.{le_refl}
use Rattle.answer.specs.Numbers.{done}
use Rattle.answer.specs.declared.Answer.{Answer}
use Rattle.answer.specs.Answers.{Is}
use Rattle.fields.specs.Format.{Said, Format, Document, Some}
use Rattle.fields.specs.Means.{AloneRefuses, Entries, EntryFaults}
use Rattle.fields.specs.Alone.{alone-apart, alone-same, alone-total, alone-settled, alone-inside}
use Rattle.fields.specs.Entries.{entries-one, entries-apart, entries-same, entries-total, entries-settled, entries-inside}

-- F, and nothing follows
abbrev pub alone : {A : Type 0} → Format A → Document A
alone F = record {
  Takes = F.Takes;
  Refuses = AloneRefuses F;
  one = λ bs a b t u. (F.one bs bs [] [] a b t u refl).1;
  apart = alone-apart F;
  same = alone-same F;
  total = alone-total F;
  settled = alone-settled F;
  inside = alone-inside F;
}

-- entries to the end, each of at least a byte
abbrev pub entries : {A : Type 0} (F : Format A) → Some F → Document (List A)
entries F some = record {
  Takes = Entries F;
  Refuses = EntryFaults F;
  one = λ bs a b t u. entries-one F some bs bs a b refl t u;
  apart = λ bs a n k t f. entries-apart F some bs bs a n k refl t f;
  same = λ bs n k m l f g. entries-same F some bs bs n k m l refl f g;
  total = λ bs. entries-total F some (length bs) bs (le_refl (length bs));
  settled = entries-settled F some;
  inside = entries-inside F some;
}

-- the answer of a reader: done, where the bytes say a value; or the refusal
abbrev pub Answers : {A : Type 0} → Document A → List ℕ → Answer → Type 0
Answers D bs a = (Said D.Takes bs × Is a done 0) ⊎ D.Refuses bs a.number a.place
