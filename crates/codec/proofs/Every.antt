-- The laws of fields that repeat: as often as they are there, each of which a rule can refuse by a number of its own, or at most
-- n, with no such rule. What is written is read back, what is read is what would be written, and where a reading stops. Assumes nothing.
use mathlib.Core.Path.{◌≡◌, refl, sym, ap, subst, ◌∙◌}
use mathlib.Core.Bool.{true}
use mathlib.Core.List.{List, [], ◌∷◌, ◌++◌, append_assoc, append-nil, append_cancel_right}
use Rattle.std.specs.Prelude.{Option, Some, None}
use mathlib.Core.Logic.{◌⊎◌, inl, inr, ⊎_elim}
use Prim.Native.Nat.{ℕ, zero, suc, ◌≤◌, ◌<◌}
use native.Mathlib.Nat.{le_refl}
use native.Mathlib.Omega.{arith}
use lib.Dec.{leb, eqb}
use lib.ListN.{length, take, drop, length-append, length-drop}
use lib.Seq.{append_snoc}
use borrow.Author.Tests.{eq-eqb, eqb-true, le-leb, leb-true}
use Rattle.lists.proofs.Tests.{and_left, and_right, and_made}
use Rattle.codec.specs.Theorems.{Bytes}
use Rattle.codec.specs.Theorems.{is_whole, joined}
use Rattle.codec.specs.Format.{Item, Res, got, stopped, more, scan, texts, all_fine, many}
use Rattle.codec.specs.Shapes.{ruled, scan_by, all_keep, every}
use Rattle.codec.proofs.Values.{bytes_drop}
use Rattle.codec.proofs.Items.{Over, over_le, ItemLaws}
use Rattle.codec.proofs.Fields.{no_empty}
use Rattle.codec.proofs.Formats.{Lawful}
use Rattle.codec.proofs.Places.{rest_of, moved, Whole, SameField, Begun, Placed, Numbered, no_field, found_more, found_alike, none_alike}

-- a whole field has bytes
some_bytes : (n : ℕ) (bs : List ℕ) → is_whole (take n bs) ≡ true → 0 < n
unfolding is_whole
some_bytes zero bs h = cc
some_bytes (suc n) bs h = omega arith

module _ {A : Type 0} (f : List A → Item A) (rule : List A → A → ℕ) (l : (before : List A) → ItemLaws (f before)) where
  -- those that follow a field found
  abbrev onward : ℕ → List A → List ℕ → A → Res (List A)
  onward n before bs a = scan_by f rule n (before ++ (a ∷ [])) (drop ((f before).size a) bs)

  abbrev step : ℕ → List A → List ℕ → Option A → Res (List A)
  step n before bs o = more before bs (λ a. ruled bs (rule before a) (onward n before bs a)) o

  -- fewer bytes are left behind a field
  pub shorter : (before : List A) (bs : List ℕ) (a : A) → (f before).look bs ≡ Some a → length (drop ((f before).size a) bs) < length bs
  shorter before bs a e =
      let t = (l before).taken bs a e in
      omega (arith, some_bytes ((f before).size a) bs t.0, t.1, length-drop ((f before).size a) bs)

  -- ---- what is passed
  record Passed (n : ℕ) (before : List A) (bs : List ℕ) (r : Res (List A)) : Type 0 where
    new : List A
    few : length new ≤ n
    fine : all_fine f before new ≡ true
    keep : all_keep rule before new ≡ true
    is : bs ≡ texts f before new ++ rest_of r
    all_is : (all : List A) (rest : List ℕ) → r ≡ got all rest → all ≡ before ++ new

  none_passed : (n : ℕ) (before : List A) (r : Res (List A)) → ((all : List A) (rest : List ℕ) → r ≡ got all rest → all ≡ before) → Passed n before (rest_of r) r
  unfolding texts all_fine all_keep
  none_passed n before r h =
      record { new = []; few = omega arith; fine = refl; keep = refl; is = refl; all_is = λ all rest e. h all rest e ∙ sym (append-nil before) }

  one_passed : (n : ℕ) (before : List A) (bs : List ℕ) (x : A) → Bytes bs → (f before).look bs ≡ Some x
      → Passed n (before ++ (x ∷ [])) (drop ((f before).size x) bs) (onward n before bs x) → (k : ℕ) → rule before x ≡ k → Passed (suc n) before bs (ruled bs k (onward n before bs x))
  unfolding texts all_fine all_keep
  one_passed n before bs x b e i (suc k) h = none_passed (suc n) before (stopped (suc k) bs) (λ all rest h. cc)
  one_passed n before bs x b e i zero h =
      let m = (l before).back bs x b e in
      record {
        new = x ∷ i.new;
        few = omega (arith, i.few);
        fine = and_made m.1 i.fine;
        keep = and_made (eq-eqb (rule before x) 0 h) i.keep;
        is = m.0 ∙ ap (λ (r : List ℕ). (f before).text x ++ r) i.is ∙ sym (append_assoc ((f before).text x) (texts f (before ++ (x ∷ [])) i.new) (rest_of (onward n before bs x)));
        all_is = λ all rest g. i.all_is all rest g ∙ append_snoc before x i.new;
      }

  step_passed : (n : ℕ) (before : List A) (bs : List ℕ) → Bytes bs → ((x : A) → Passed n (before ++ (x ∷ [])) (drop ((f before).size x) bs) (onward n before bs x))
      → (o : Option A) → (f before).look bs ≡ o → Passed (suc n) before bs (step n before bs o)
  step_passed n before bs b ih None e = none_passed (suc n) before (got before bs) (λ all rest h. cc)
  step_passed n before bs b ih (Some x) e = one_passed n before bs x b e (ih x) (rule before x) refl

  passed : (n : ℕ) (before : List A) (bs : List ℕ) → Bytes bs → Passed n before bs (scan_by f rule n before bs)
  unfolding scan_by
  passed zero before bs b = none_passed 0 before (got before bs) (λ all rest h. cc)
  passed (suc n) before bs b =
      step_passed n before bs b (λ x. passed n (before ++ (x ∷ [])) (drop ((f before).size x) bs) (bytes_drop ((f before).size x) bs b)) ((f before).look bs) refl

  -- ---- whole fields
  one_fields : (n : ℕ) (before : List A) (bs : List ℕ) (x : A) → (f before).look bs ≡ Some x → Whole (drop ((f before).size x) bs) (rest_of (onward n before bs x))
      → (k : ℕ) → Whole bs (rest_of (ruled bs k (onward n before bs x)))
  one_fields n before bs x e w zero = found_more (f before) (l before) bs (rest_of (onward n before bs x)) x e w
  one_fields n before bs x e w (suc k) = no_field bs

  step_fields : (n : ℕ) (before : List A) (bs : List ℕ) → ((x : A) → Whole (drop ((f before).size x) bs) (rest_of (onward n before bs x)))
      → (o : Option A) → (f before).look bs ≡ o → Whole bs (rest_of (step n before bs o))
  step_fields n before bs ih None e = no_field bs
  step_fields n before bs ih (Some x) e = one_fields n before bs x e (ih x) (rule before x)

  by_fields : (n : ℕ) (before : List A) (bs : List ℕ) → Whole bs (rest_of (scan_by f rule n before bs))
  unfolding scan_by
  by_fields zero before bs = no_field bs
  by_fields (suc n) before bs = step_fields n before bs (λ x. by_fields n (before ++ (x ∷ [])) (drop ((f before).size x) bs)) ((f before).look bs) refl

  -- ---- what follows the field at which it stops does not matter, nor how many more could be read
  -- as many, or enough for all the bytes
  abbrev Enough : ℕ → ℕ → List ℕ → List ℕ → List ℕ → Type 0
  Enough n m w r q = (n ≡ m) ⊎ ((length (w ++ r) ≤ n) × (length (w ++ q) ≤ m))

  module _ (n m : ℕ) (before : List A) (w r q : List ℕ) (s : SameField r q) (enough : Enough (suc n) (suc m) w r q)
      (ih : (a : A) (u : List ℕ) → Enough n m u r q → rest_of (scan_by f rule n (before ++ (a ∷ [])) (u ++ r)) ≡ r
      → scan_by f rule m (before ++ (a ∷ [])) (u ++ q) ≡ moved (scan_by f rule n (before ++ (a ∷ [])) (u ++ r)) q) where
    one_alike : (a : A) → (f before).look (w ++ r) ≡ Some a → (k : ℕ) → rest_of (ruled (w ++ r) k (onward n before (w ++ r) a)) ≡ r
        → ((f before).look (w ++ q) ≡ Some a) × (ruled (w ++ q) k (onward m before (w ++ q) a) ≡ moved (ruled (w ++ r) k (onward n before (w ++ r) a)) q)
    one_alike a e (suc k) h =
        let c : w ≡ [] = append_cancel_right w [] r h in
        let x : w ++ q ≡ q = ap (λ (t : List ℕ). t ++ q) c in
        (ap (f before).look (x ∙ s.so) ∙ (l before).alike s.first s.other s.after s.whole ∙ ap (f before).look (sym (h ∙ s.is)) ∙ e, ap (stopped (suc k)) x)
    one_alike a e zero h =
        let d = drop ((f before).size a) (w ++ r) in
        let x = by_fields n (before ++ (a ∷ [])) d in
        let u = joined x.fields in
        let y : d ≡ u ++ r = x.is ∙ ap (λ (t : List ℕ). u ++ t) h in
        let k = found_alike (f before) (l before) w r u a e y q in
        let v = shorter before (w ++ r) a e in
        let z = shorter before (w ++ q) a k.0 in
        let g : Enough n m u r q = ⊎_elim (λ i. inl (omega arith)) (λ i. inr (omega (arith, v, ap length y), omega (arith, z, ap length k.1))) enough in
        (k.0, ap (scan_by f rule m (before ++ (a ∷ []))) k.1 ∙ ih a u g (ap (λ (t : List ℕ). rest_of (scan_by f rule n (before ++ (a ∷ [])) t)) (sym y) ∙ h) ∙ ap (λ (t : List ℕ). moved (scan_by f rule n (before ++ (a ∷ [])) t) q) (sym y))

    step_alike : (o : Option A) → (f before).look (w ++ r) ≡ o → rest_of (step n before (w ++ r) o) ≡ r → step m before (w ++ q) ((f before).look (w ++ q)) ≡ moved (step n before (w ++ r) o) q
    step_alike None e h = let k = none_alike (f before) (l before) w r q s e h in rw k.0 (ap (got before) k.1)
    step_alike (Some a) e h = let k = one_alike a e (rule before a) h in rw k.0 k.1

  no_bytes : (w r q : List ℕ) → SameField r q → length (w ++ r) ≤ 0 → ⊥
  no_bytes w r q s h = no_empty s.first s.after s.whole (empty (s.first ++ s.after) (omega (arith, h, length-append w r, ap length s.is)))
    where
      empty : (bs : List ℕ) → length bs ≤ 0 → bs ≡ []
      empty [] h = refl
      empty (x ∷ bs) h = absurd (omega arith)

  other_field : {r q : List ℕ} → SameField r q → SameField q r
  other_field s = record { first = s.first; whole = s.whole; after = s.other; other = s.after; is = s.so; so = s.is }

  by_alike : (n m : ℕ) (before : List A) (w r q : List ℕ) → SameField r q → Enough n m w r q → rest_of (scan_by f rule n before (w ++ r)) ≡ r
      → scan_by f rule m before (w ++ q) ≡ moved (scan_by f rule n before (w ++ r)) q
  unfolding scan_by
  by_alike zero zero before w r q s g h = ap (λ (m : List ℕ). got before (m ++ q)) (append_cancel_right w [] r h)
  by_alike zero (suc m) before w r q s g h = absurd (⊎_elim (λ i. omega arith) (λ i. no_bytes w r q s i.0) g)
  by_alike (suc n) zero before w r q s g h = absurd (⊎_elim (λ i. omega arith) (λ i. no_bytes w q r (other_field s) i.1) g)
  by_alike (suc n) (suc m) before w r q s g h =
      step_alike n m before w r q s g (λ a u. by_alike n m (before ++ (a ∷ [])) u r q s) ((f before).look (w ++ r)) refl h

  -- ---- it stops by no number but one that the rule gives
  module _ (Given : ℕ → Type 0) (gives : (before : List A) (a : A) (k : ℕ) → rule before a ≡ suc k → Given (suc k)) where
    step_numbers : (n : ℕ) (before : List A) (bs : List ℕ) (why : ℕ) (rest : List ℕ) → ((a : A) → onward n before bs a ≡ stopped why rest → Given why) → (o : Option A) → step n before bs o ≡ stopped why rest → Given why
    step_numbers n before bs why rest ih None e = cc
    step_numbers n before bs why rest ih (Some a) e = by (rule before a) refl e
      where
        by : (k : ℕ) → rule before a ≡ k → ruled bs k (onward n before bs a) ≡ stopped why rest → Given why
        by zero h e = ih a e
        by (suc k) h e = let w : suc k ≡ why = cc in subst Given w (gives before a k h)

    scan_numbers : (n : ℕ) (before : List A) (bs : List ℕ) (why : ℕ) (rest : List ℕ) → scan_by f rule n before bs ≡ stopped why rest → Given why
    unfolding scan_by
    scan_numbers zero before bs why rest e = cc
    scan_numbers (suc n) before bs why rest e = step_numbers n before bs why rest (λ a. scan_numbers n (before ++ (a ∷ [])) (drop ((f before).size a) bs) why rest) ((f before).look bs) e

    pub every_numbers : (bs : List ℕ) (why : ℕ) (rest : List ℕ) → (every f rule).read bs ≡ stopped why rest → Given why
    every_numbers bs why rest e = scan_numbers (length bs) [] bs why rest e

  every_begun : (bs rest : List ℕ) (k : ℕ) → (r : Res (List A)) → r ≡ stopped k rest → Passed (length bs) [] bs r → Begun (every f rule) bs rest
  every_begun bs rest k r e p =
      record {
        front = texts f [] p.new;
        is = p.is ∙ ap (λ (x : Res (List A)). texts f [] p.new ++ rest_of x) e;
        value = p.new;
        ok = and_made p.fine p.keep;
        more = [];
        begins = sym (append-nil (texts f [] p.new));
      }

  pub every_placed : Placed (every f rule)
  unfolding all_fine all_keep
  every_placed =
      record {
        fields = λ bs. by_fields (length bs) [] bs;
        alike = λ w r q s h. by_alike (length (w ++ r)) (length (w ++ q)) [] w r q s (inr (le_refl (length (w ++ r)), le_refl (length (w ++ q)))) h;
        any = [];
        any_ok = refl;
        begun = λ bs k rest b h. every_begun bs rest k (scan_by f rule (length bs) [] bs) h (passed (length bs) [] bs b);
      }

  -- ---- what is written is read back
  module _ (t u : ℕ) (same : (before : List A) → (f before).tag ≡ t) (same-last : (before : List A) → (f before).last ≡ u) where
    past : (before : List A) (rest : List ℕ) → Over (suc u) rest → (f before).look rest ≡ None
    past before rest o = (l before).other rest (subst (λ (k : ℕ). Over (suc k) rest) (sym (same-last before)) o)

    by_there : (n : ℕ) (before ys : List A) (rest : List ℕ) → length ys ≤ n → all_fine f before ys ≡ true → all_keep rule before ys ≡ true → Over (suc u) rest
        → scan_by f rule n before (texts f before ys ++ rest) ≡ got (before ++ ys) rest
    unfolding scan_by texts all_fine all_keep
    by_there zero before [] rest h a k o = rw (append-nil before)
    by_there (suc n) before [] rest h a k o = rw (past before rest o, append-nil before)
    by_there zero before (x ∷ ys) rest h a k o = absurd (omega arith)
    by_there (suc n) before (x ∷ ys) rest h a k o =
        let r = texts f (before ++ (x ∷ [])) ys ++ rest in
        let hx : (f before).fine x ≡ true = and_left ((f before).fine x) (all_fine f (before ++ (x ∷ [])) ys) a in
        let hy : all_fine f (before ++ (x ∷ [])) ys ≡ true = and_right ((f before).fine x) (all_fine f (before ++ (x ∷ [])) ys) a in
        let kx : rule before x ≡ 0 = eqb-true (rule before x) 0 (and_left (eqb (rule before x) 0) (all_keep rule (before ++ (x ∷ [])) ys) k) in
        let ky : all_keep rule (before ++ (x ∷ [])) ys ≡ true = and_right (eqb (rule before x) 0) (all_keep rule (before ++ (x ∷ [])) ys) k in
        rw (append_assoc ((f before).text x) (texts f (before ++ (x ∷ [])) ys) rest, (l before).there x r hx, kx, (l before).after x r hx, by_there n (before ++ (x ∷ [])) ys rest (omega arith) hy ky o, append_snoc before x ys)

    -- each has a byte at least
    few_texts : (before ys : List A) (rest : List ℕ) → all_fine f before ys ≡ true → length ys ≤ length (texts f before ys ++ rest)
    unfolding texts all_fine
    few_texts before [] rest a = omega arith
    few_texts before (x ∷ ys) rest a =
        let r = texts f (before ++ (x ∷ [])) ys ++ rest in
        let hx : (f before).fine x ≡ true = and_left ((f before).fine x) (all_fine f (before ++ (x ∷ [])) ys) a in
        let i = few_texts (before ++ (x ∷ [])) ys rest (and_right ((f before).fine x) (all_fine f (before ++ (x ∷ [])) ys) a) in
        rw (append_assoc ((f before).text x) (texts f (before ++ (x ∷ [])) ys) rest)
        (omega (arith, i, ap length ((l before).after x r hx), shorter before ((f before).text x ++ r) x ((l before).there x r hx)))

    by_over : (before ys : List A) (rest : List ℕ) → Over (suc u) rest → Over t (texts f before ys ++ rest)
    unfolding texts
    by_over before [] rest o = over_le (omega (arith, (l before).tags, same before, same-last before)) rest o
    by_over before (x ∷ ys) rest o =
        rw (append_assoc ((f before).text x) (texts f (before ++ (x ∷ [])) ys) rest)
        (subst (λ (k : ℕ). Over k ((f before).text x ++ (texts f (before ++ (x ∷ [])) ys ++ rest))) (same before) ((l before).over x (texts f (before ++ (x ∷ [])) ys ++ rest)))

    by_back : (n : ℕ) (bs : List ℕ) (all : List A) (rest : List ℕ) (r : Res (List A)) → r ≡ got all rest → Passed n [] bs r
        → (bs ≡ texts f [] all ++ rest) × (length all ≤ n) × (all_fine f [] all ≡ true) × (all_keep rule [] all ≡ true)
    by_back n bs all rest r e p =
        let a : all ≡ p.new = p.all_is all rest e in
        rw a (p.is ∙ ap (λ (x : Res (List A)). texts f [] p.new ++ rest_of x) e, p.few, p.fine, p.keep)

    pub every_lawful : Lawful (every f rule) t (suc u)
    every_lawful =
        record {
          there = λ a rest h o. let g = and_left (all_fine f [] a) (all_keep rule [] a) h in by_there (length (texts f [] a ++ rest)) [] a rest (few_texts [] a rest g) g (and_right (all_fine f [] a) (all_keep rule [] a) h) o;
          over = λ a rest h o. by_over [] a rest o;
          back = λ bs a rest b h. let k = by_back (length bs) bs a rest (scan_by f rule (length bs) [] bs) h (passed (length bs) [] bs b) in (k.0, and_made k.2 k.3);
        }

-- ---- at most n: the same with a rule that refuses none
module _ {A : Type 0} (f : List A → Item A) (l : (before : List A) → ItemLaws (f before)) where
  abbrev no_rule : List A → A → ℕ
  no_rule before a = 0

  scan_by_law : (n : ℕ) (before : List A) (bs : List ℕ) → scan f n before bs ≡ scan_by f no_rule n before bs
  unfolding scan scan_by
  scan_by_law zero before bs = refl
  scan_by_law (suc n) before bs = λ i. more before bs (λ a. scan_by_law n (before ++ (a ∷ [])) (drop ((f before).size a) bs) i) ((f before).look bs)

  all_keep_law : (before ys : List A) → all_keep no_rule before ys ≡ true
  unfolding all_keep
  all_keep_law before [] = refl
  all_keep_law before (x ∷ ys) = all_keep_law (before ++ (x ∷ [])) ys

  -- it never stops by a number
  step_got : (n : ℕ) (before : List A) (bs : List ℕ) (k : ℕ) (rest : List ℕ) → ((a : A) → scan_by f no_rule n (before ++ (a ∷ [])) (drop ((f before).size a) bs) ≡ stopped k rest → ⊥)
      → (o : Option A) → step f no_rule l n before bs o ≡ stopped k rest → ⊥
  step_got n before bs k rest ih None h = cc
  step_got n before bs k rest ih (Some a) h = ih a h

  scan_got : (n : ℕ) (before : List A) (bs : List ℕ) (k : ℕ) (rest : List ℕ) → scan_by f no_rule n before bs ≡ stopped k rest → ⊥
  unfolding scan_by
  scan_got zero before bs k rest h = cc
  scan_got (suc n) before bs k rest h = step_got n before bs k rest (λ a. scan_got n (before ++ (a ∷ [])) (drop ((f before).size a) bs) k rest) ((f before).look bs) h

  module _ (n : ℕ) where
    pub many_placed : Placed (many f n)
    unfolding all_fine
    many_placed =
        record {
          fields = λ bs. rw scan_by_law (by_fields f no_rule l n [] bs);
          alike = λ w r q s h. rw (scan_by_law n [] (w ++ q), scan_by_law n [] (w ++ r)) (by_alike f no_rule l n n [] w r q s (inl refl) (rw scan_by_law at h));
          any = [];
          any_ok = rw (le-leb 0 n (omega arith));
          begun = λ bs k rest b h. absurd (scan_got n [] bs k rest (rw scan_by_law at h));
        }

    pub many_numbered : {k : ℕ} → Numbered (many f n) k
    many_numbered = record { only = λ bs why rest h. absurd (scan_got n [] bs why rest (rw scan_by_law at h)) }

    pub many_lawful : (t u : ℕ) → ((before : List A) → (f before).tag ≡ t) → ((before : List A) → (f before).last ≡ u) → Lawful (many f n) t (suc u)
    many_lawful t u same same-last =
        record {
          there = λ a rest h o. rw scan_by_law (by_there f no_rule l t u same same-last n [] a rest (leb-true _ _ (and_left (leb (length a) n) (all_fine f [] a) h)) (and_right (leb (length a) n) (all_fine f [] a) h) (all_keep_law [] a) o);
          over = λ a rest h o. by_over f no_rule l t u same same-last [] a rest o;
          back = λ bs a rest b h. let k = by_back f no_rule l t u same same-last n bs a rest (scan_by f no_rule n [] bs) (rw scan_by_law at h) (passed f no_rule l n [] bs b) in (k.0, and_made (le-leb _ _ k.1) k.2);
        }
