-- What the functions inside come to, case by case. Assumes nothing.
use Rattle.std.specs.Prelude.{◌≡◌, refl, Option, Some, None, List, [], ℕ, ◌<◌, ◌≤◌, length, get_or}
use Rattle.std.proofs.Common.{sym, ap, ◌∙◌, subst, inl, inr, arith}
use Rattle.std.proofs.Math.Decide.{ℕ_discrete}
use Rattle.answer.specs.declared.Answer.{Answer}
use Rattle.answer.specs.Numbers.{done}
use Rattle.answer.specs.Answers.{Is, Granted, Decides, Leaves}
use Rattle.answer.specs.Lists.{granted-place}
use Rattle.policy.specs.declared.Examined.{Examined}
use Rattle.policy.specs.State.{set_slots, with_file}
use Rattle.policy.specs.WellFormed.{Examines}
use Rattle.policy.specs.SeenLaws.{stored-again}
use Rattle.print.specs.Print.{PrintOf, print_conditions, print_grants, print_makes}
use Rattle.print.specs.Laws.{one-print-of}
use Rattle.gate.specs.declared.Effect.{Effect}
use Rattle.gate.specs.Effects.{after, Tells}
use Rattle.machine.specs.Machine.{load, begin, end, ask, change, bypass, Step}
use Rattle.records.specs.declared.Record.{Record}
use Rattle.records.specs.Records.{AloneIs}
use Rattle.door.specs.declared.BoxRecord.{BoxRecord}
use Rattle.door.specs.declared.Served.{Served}
use Rattle.door.specs.Box.{Call, no_record, requests, prints}
use Rattle.door.specs.Inner.{Inside, field_at, request_at, ServedIs, PrintIs, LoadIs}
use Rattle.door.specs.Laws.{one-box-record, no_call, places-inside, code-some, a-request, a-load, a-print-call, load_code, step_small, print-small}

-- the places of a record that is read are within its bytes, and its code is no load of the machine's
pub alone-inside : (rec : List ℕ) (p : Record) → AloneIs rec (Some p) → Inside rec p.fields
alone-inside rec p (w, h) = places-inside rec p w h

pub alone-code : (rec : List ℕ) (p : Record) → AloneIs rec (Some p) → 0 < p.code
alone-code rec p (w, h) = code-some rec p w h

-- a box with what was seen of it stored again is the same
pub seen-unaltered : (b : BoxRecord) (slot file : ℕ) (seen : Examined) → Examines b.state slot file seen
    → record { state = with_file (set_slots b.state seen.slots) seen.at seen.file } ≡ b
seen-unaltered b slot file seen v = λ i. record { state = stored-again v i }

-- the image of a load
abbrev image_of : Call → List ℕ
image_of (requests (load image)) = image
image_of (requests (begin slot role)) = []
image_of (requests (end slot)) = []
image_of (requests (ask slot file mode)) = []
image_of (requests (change slot file mode x y)) = []
image_of (requests (bypass slot file mode x y)) = []
image_of (prints x) = []

-- the record of a load, or none: of bytes that are no record, of another's, and of a load's
module _ (b : BoxRecord) (rec : List ℕ) (a : Answer) where
  pub load-none : AloneIs rec None → Is a no_record 0 → LoadIs b rec a b
  load-none n i = record { load-made = λ image v. absurd (no_call n (requests (load image)) v); no-load = λ _. (i, refl) }

  module _ (p : Record) (s : AloneIs rec (Some p)) where
    pub load-other : (p.code ≡ 6 → ⊥) → Is a no_record 0 → LoadIs b rec a b
    load-other c i = record { load-made = λ image v. absurd (c (load_code s.0 v)); no-load = λ _. (i, refl) }

    pub load-done : p.code ≡ 6 → (then : BoxRecord) → Step b.state (load (field_at rec p.fields 0)) a then.state → LoadIs b rec a then
    load-done c then v =
        let is = a-load rec p s.0 s.1 c in
        record {
          load-made = λ image u. record {
            answer = a;
            steps = subst (λ (x : List ℕ). Step b.state (load x) a then.state) (ap image_of (one-box-record is u).0) v;
            packs = refl;
          };
          no-load = λ n. absurd (n _ is);
        }

-- no record
pub serve-none : (b : BoxRecord) (rec out : List ℕ) → AloneIs rec None → (r : Served) → Is r.answer no_record 0 → r.given ≡ 0 → ServedIs b rec out r b out
serve-none b rec out n r i g = record {
  serves = inr (record { none = no_call n; told = omega (arith, i.number, i.place); unaltered = refl; kept = refl });
  answers = (let number = i.number in let place = i.place in λ j. record { number = number j; place = place j });
  counted = g;
  small = omega (arith, i.place);
}

module _ (b : BoxRecord) (rec : List ℕ) (p : Record) (out : List ℕ) (s : AloneIs rec (Some p)) where
  -- a load
  pub serve-load : p.code ≡ 6 → (then : BoxRecord) (a : Answer) → Step b.state (load (field_at rec p.fields 0)) a then.state → a.place < 65536
      → ServedIs b rec out (record { answer = a; given = 0 }) then out
  serve-load c then a v h = record {
    serves = inl (record {
      call = requests (load (field_at rec p.fields 0));
      is = a-load rec p s.0 s.1 c;
      makes = record { answer = a; given = []; does = (v, refl); packs = refl; fills = refl };
    });
    answers = refl;
    counted = refl;
    small = h;
  }

  -- a print
  pub serve-print : p.code ≡ 16 → (r : Served) (out' : List ℕ) → PrintIs b (field_at rec p.fields 0) out r out' → ServedIs b rec out r b out'
  serve-print c r out' v = record {
    serves = inl (record { call = prints (field_at rec p.fields 0); is = a-print-call rec p s.0 s.1 c; makes = v.makes });
    answers = v.answers;
    counted = v.count;
    small = v.small;
  }

  -- any other record
  pub serve-other : (p.code ≡ 6 → ⊥) → (p.code ≡ 16 → ⊥) → (e : Effect)
      → Tells b.state (λ o. Step b.state (request_at p.code rec p.fields) o.answer o.state) e
      → ServedIs b rec out (record { answer = e.answer; given = 0 }) (record { state = after b.state e }) out
  serve-other c d e v =
      let q = request_at p.code rec p.fields in
      record {
        serves = inl (record {
          call = requests q;
          is = a-request rec p s.0 s.1 c d;
          makes = record { answer = e.answer; given = []; does = (v.is, refl); packs = refl; fills = refl };
        });
        answers = refl;
        counted = refl;
        small = (step_small b.state (after b.state e) q e.answer v.is).1;
      }

-- a print on the box, as it was answered
module _ (b : BoxRecord) (x out out' : List ℕ) (a : Answer) (d : Decides (print_conditions b.state x (length out)) (print_grants x) a)
    (l : Leaves a (print_makes x out) out out') where
  -- a grant names the printed length
  names-length : Granted a → print_grants x a.place
  names-length = granted-place (print_grants x) a (print_conditions b.state x (length out)) refl d

  print-granted : Granted a → PrintIs b x out (record { answer = a; given = a.place }) out'
  print-granted g =
      let (p, v, e) = l.on-grant g in
      let (q, w, k) = names-length g in
      let gives : Leaves a (PrintOf x) [] p = record { on-grant = λ _. v; on-refusal = λ f. absurd (f g) } in
      record {
        makes = record { answer = a; given = p; does = record { decides = d; gives = gives; unaltered = refl }; packs = refl; fills = e };
        answers = refl;
        count = k ∙ ap length (one-print-of w v);
        small = (print-small b.state x (length out) a d).1;
      }

  print-refused : (Granted a → ⊥) → PrintIs b x out (record { answer = a; given = 0 }) out'
  print-refused f =
      let gives : Leaves a (PrintOf x) [] [] = record { on-grant = λ g. absurd (f g); on-refusal = λ _. refl } in
      record {
        makes = record {
          answer = a;
          given = [];
          does = record { decides = d; gives = gives; unaltered = refl };
          packs = refl;
          fills = l.on-refusal f;
        };
        answers = refl;
        count = refl;
        small = (print-small b.state x (length out) a d).1;
      }

  pub print-came : (given : ℕ) → (Granted a → given ≡ a.place) × ((Granted a → ⊥) → given ≡ 0) → PrintIs b x out (record { answer = a; given = given }) out'
  print-came given w = go (ℕ_discrete a.number done)
    where
      go : Dec (a.number ≡ done) → PrintIs b x out (record { answer = a; given = given }) out'
      go (yes g) = subst (λ (k : ℕ). PrintIs b x out (record { answer = a; given = k }) out') (sym (w.0 g)) (print-granted g)
      go (no f) = subst (λ (k : ℕ). PrintIs b x out (record { answer = a; given = k }) out') (sym (w.1 f)) (print-refused f)
