-- Where a reading stops: what lies before that place is whole fields, what follows the field there does not matter, and
-- where the reading stops, what lies before begins something that may be written. Assumes nothing.
use mathlib.Core.Path.{◌≡◌, refl, sym, ap, subst, ◌∙◌}
use mathlib.Core.Bool.{Bool, true, ◌||◌}
use mathlib.Core.List.{List, [], ◌∷◌, ◌++◌, append_assoc, append_cancel_right}
use Rattle.std.specs.Prelude.{Option, Some, None}
use Prim.Native.Nat.{ℕ}
use lib.ListN.{length, take, drop, take-append-drop}
use lib.Seq.{drop_at, length-take-le}
use Rattle.lists.specs.Lists.{all}
use Rattle.lists.proofs.Tests.{and_left, and_right, and_made}
use Rattle.codec.specs.Theorems.{Bytes}
use Rattle.codec.specs.Theorems.{is_whole, joined}
use Rattle.codec.specs.Format.{Item, Res, got, stopped, Codec, malformed, need, one, absent, or_else, opt, pair_up, and_then, both}
use Rattle.codec.proofs.Values.{bytes_right}
use Rattle.codec.proofs.Items.{ItemLaws}
use Rattle.codec.proofs.Formats.{Lawful}

-- what a reading leaves
abbrev pub rest_of : {A : Type 0} → Res A → List ℕ
rest_of (got a r) = r
rest_of (stopped n r) = r

-- the same outcome, with other bytes left
abbrev pub moved : {A : Type 0} → Res A → List ℕ → Res A
moved (got a r) q = got a q
moved (stopped n r) q = stopped n q

-- bytes are whole fields, and then the rest
pub record Whole (bs rest : List ℕ) : Type 0 where
  pub fields : List (List ℕ)
  pub whole : all is_whole fields ≡ true
  pub is : bs ≡ joined fields ++ rest

-- both begin with the same whole field
pub record SameField (r q : List ℕ) : Type 0 where
  pub first : List ℕ
  pub whole : is_whole first ≡ true
  pub after : List ℕ
  pub other : List ℕ
  pub is : r ≡ first ++ after
  pub so : q ≡ first ++ other

-- a value that may be written and whose writing begins with the bytes before the rest
pub record Begun {A : Type 0} (c : Codec A) (bs rest : List ℕ) : Type 0 where
  pub front : List ℕ
  pub is : bs ≡ front ++ rest
  pub value : A
  pub ok : c.ok value ≡ true
  pub more : List ℕ
  pub begins : c.write value ≡ front ++ more

pub record Placed {A : Type 0} (c : Codec A) : Type 0 where
  -- what is read is whole fields
  pub fields : (bs : List ℕ) → Whole bs (rest_of (c.read bs))
  -- what follows the field at which a reading stops does not matter
  pub alike : (w r q : List ℕ) → SameField r q → rest_of (c.read (w ++ r)) ≡ r → c.read (w ++ q) ≡ moved (c.read (w ++ r)) q
  -- something may be written
  pub any : A
  pub any_ok : c.ok any ≡ true
  -- where it stops, what was read begins something that may be written
  pub begun : (bs : List ℕ) (n : ℕ) (rest : List ℕ) → Bytes bs → c.read bs ≡ stopped n rest → Begun c bs rest

-- it refuses by one number alone
pub record Numbered {A : Type 0} (c : Codec A) (k : ℕ) : Type 0 where
  pub only : (bs : List ℕ) (why : ℕ) (rest : List ℕ) → c.read bs ≡ stopped why rest → why ≡ k

-- ---- whole fields
pub no_field : (bs : List ℕ) → Whole bs bs
unfolding joined
no_field bs = record { fields = []; whole = refl; is = refl }

field_more : (f bs rest : List ℕ) → is_whole f ≡ true → Whole bs rest → Whole (f ++ bs) rest
unfolding joined
field_more f bs rest h w =
    record {
      fields = f ∷ w.fields;
      whole = and_made h w.whole;
      is = ap (λ (m : List ℕ). f ++ m) w.is ∙ sym (append_assoc f (joined w.fields) rest);
    }

fields_more : (fs : List (List ℕ)) (bs rest : List ℕ) → all is_whole fs ≡ true → Whole bs rest → Whole (joined fs ++ bs) rest
unfolding joined
fields_more [] bs rest h w = w
fields_more (f ∷ fs) bs rest h w =
    rw (append_assoc f (joined fs) bs)
    (field_more f (joined fs ++ bs) rest (and_left (is_whole f) (all is_whole fs) h) (fields_more fs bs rest (and_right (is_whole f) (all is_whole fs) h) w))

-- with the same whole fields before them they still begin alike
same_before : (fs : List (List ℕ)) (r q : List ℕ) → all is_whole fs ≡ true → SameField r q → SameField (joined fs ++ r) (joined fs ++ q)
unfolding joined
same_before [] r q h s = s
same_before (f ∷ fs) r q h s =
    record {
      first = f;
      whole = and_left (is_whole f) (all is_whole fs) h;
      after = joined fs ++ r;
      other = joined fs ++ q;
      is = append_assoc f (joined fs) r;
      so = append_assoc f (joined fs) q;
    }

-- what `alike` says, of bytes that an equation gives
pub alike_at : {A : Type 0} (read : List ℕ → Res A) (w r q bs : List ℕ) → (rest_of (read (w ++ r)) ≡ r → read (w ++ q) ≡ moved (read (w ++ r)) q) → bs ≡ w ++ r → rest_of (read bs) ≡ r → read (w ++ q) ≡ moved (read bs) q
alike_at read w r q bs k e h = rw e (k (rw e at h))

-- ---- a field that is not there
absent_rest : {A : Type 0} (d : Option A) (bs : List ℕ) → rest_of (absent d bs) ≡ bs
absent_rest (Some x) bs = refl
absent_rest None bs = refl

absent_moved : {A : Type 0} (d : Option A) (q r : List ℕ) → absent d q ≡ moved (absent d r) q
absent_moved (Some x) q r = refl
absent_moved None q r = refl

absent_stopped : {A : Type 0} (d : Option A) (bs : List ℕ) (n : ℕ) (rest : List ℕ) → absent d bs ≡ stopped n rest → (bs ≡ rest) × (n ≡ malformed)
absent_stopped (Some x) bs n rest h = cc
absent_stopped None bs n rest h =
    let p : bs ≡ rest = cc in
    let q : n ≡ malformed = cc in
    (p, q)

-- ---- one field
module _ {A : Type 0} (f : Item A) (l : ItemLaws f) where
  -- the field found, and whole fields after it
  pub found_more : (bs rest : List ℕ) (a : A) → f.look bs ≡ Some a → Whole (drop (f.size a) bs) rest → Whole bs rest
  found_more bs rest a e w =
      subst (λ (m : List ℕ). Whole m rest) (take-append-drop (f.size a) bs) (field_more (take (f.size a) bs) (drop (f.size a) bs) rest (l.taken bs a e).0 w)

  -- a field found is found whatever comes behind it
  pub found_alike : (w r u : List ℕ) (a : A) → f.look (w ++ r) ≡ Some a → drop (f.size a) (w ++ r) ≡ u ++ r → (q : List ℕ) → (f.look (w ++ q) ≡ Some a) × (drop (f.size a) (w ++ q) ≡ u ++ q)
  found_alike w r u a e h q =
      let g = take (f.size a) (w ++ r) in
      let t = l.taken (w ++ r) a e in
      let n : length g ≡ f.size a = length-take-le (f.size a) (w ++ r) t.1 in
      let s : w ++ r ≡ g ++ (u ++ r) = sym (take-append-drop (f.size a) (w ++ r)) ∙ ap (λ (m : List ℕ). g ++ m) h in
      let k : w ≡ g ++ u = append_cancel_right w (g ++ u) r (s ∙ sym (append_assoc g u r)) in
      let x : w ++ q ≡ g ++ (u ++ q) = ap (λ (m : List ℕ). m ++ q) k ∙ append_assoc g u q in
      (ap f.look x ∙ l.alike g (u ++ q) (u ++ r) t.0 ∙ ap f.look (sym s) ∙ e, ap (drop (f.size a)) x ∙ drop_at g (u ++ q) (f.size a) n)

  -- where none is found before a field, none is found before the same field
  pub none_alike : (w r q : List ℕ) → SameField r q → f.look (w ++ r) ≡ None → w ++ r ≡ r → (f.look (w ++ q) ≡ None) × (w ++ q ≡ q)
  none_alike w r q s e h =
      let k : w ≡ [] = append_cancel_right w [] r h in
      let x : w ++ q ≡ q = ap (λ (m : List ℕ). m ++ q) k in
      (ap f.look (x ∙ s.so) ∙ l.alike s.first s.other s.after s.whole ∙ ap f.look (sym (h ∙ s.is)) ∙ e, x)

  need_fields : (bs : List ℕ) (o : Option A) → f.look bs ≡ o → Whole bs (rest_of (need f bs o))
  need_fields bs None e = no_field bs
  need_fields bs (Some x) e = found_more bs (drop (f.size x) bs) x e (no_field (drop (f.size x) bs))

  need_alike : (w r q : List ℕ) → SameField r q → (o : Option A) → f.look (w ++ r) ≡ o → rest_of (need f (w ++ r) o) ≡ r → need f (w ++ q) (f.look (w ++ q)) ≡ moved (need f (w ++ r) o) q
  need_alike w r q s None e h = let k = none_alike w r q s e h in rw k.0 (ap (stopped malformed) k.1)
  need_alike w r q s (Some x) e h = let k = found_alike w r [] x e h q in rw k.0 (ap (got x) k.1)

  need_begun : (a : A) → f.fine a ≡ true → (bs : List ℕ) (o : Option A) (n : ℕ) (rest : List ℕ) → need f bs o ≡ stopped n rest → Begun (one f) bs rest
  need_begun a k bs None n rest h = record { front = []; is = cc; value = a; ok = k; more = f.text a; begins = refl }
  need_begun a k bs (Some x) n rest h = cc

  pub one_placed : (a : A) → f.fine a ≡ true → Placed (one f)
  one_placed a k =
      record {
        fields = λ bs. need_fields bs (f.look bs) refl;
        alike = λ w r q s h. need_alike w r q s (f.look (w ++ r)) refl h;
        any = a;
        any_ok = k;
        begun = λ bs n rest b h. need_begun a k bs (f.look bs) n rest h;
      }

  need_numbered : (bs : List ℕ) (o : Option A) (why : ℕ) (rest : List ℕ) → need f bs o ≡ stopped why rest → why ≡ malformed
  need_numbered bs None why rest h = cc
  need_numbered bs (Some x) why rest h = cc

  pub one_numbered : Numbered (one f) malformed
  one_numbered = record { only = λ bs why rest h. need_numbered bs (f.look bs) why rest h }

  module _ (d : Option A) where
    else_fields : (bs : List ℕ) (o : Option A) → f.look bs ≡ o → Whole bs (rest_of (or_else f d bs o))
    else_fields bs None e = rw (absent_rest d bs) (no_field bs)
    else_fields bs (Some x) e = found_more bs (drop (f.size x) bs) x e (no_field (drop (f.size x) bs))

    else_alike : (w r q : List ℕ) → SameField r q → (o : Option A) → f.look (w ++ r) ≡ o → rest_of (or_else f d (w ++ r) o) ≡ r → or_else f d (w ++ q) (f.look (w ++ q)) ≡ moved (or_else f d (w ++ r) o) q
    else_alike w r q s None e h =
        let k = none_alike w r q s e (sym (absent_rest d (w ++ r)) ∙ h) in
        rw k.0 (absent_moved d (w ++ q) (w ++ r) ∙ ap (moved (absent d (w ++ r))) k.1)
    else_alike w r q s (Some x) e h = let k = found_alike w r [] x e h q in rw k.0 (ap (got x) k.1)

    -- where it stops nothing was read, by 13
    else_stopped : (bs : List ℕ) (o : Option A) (n : ℕ) (rest : List ℕ) → or_else f d bs o ≡ stopped n rest → (bs ≡ rest) × (n ≡ malformed)
    else_stopped bs None n rest h = absent_stopped d bs n rest h
    else_stopped bs (Some x) n rest h = cc

    -- with a value that may be written, left out or not
    pub opt_placed : (is : A → Bool) (a : A) → (is a || f.fine a) ≡ true → Placed (opt f d is)
    opt_placed is a k =
        record {
          fields = λ bs. else_fields bs (f.look bs) refl;
          alike = λ w r q s h. else_alike w r q s (f.look (w ++ r)) refl h;
          any = a;
          any_ok = k;
          begun = λ bs n rest b h.
              record {
                front = [];
                is = (else_stopped bs (f.look bs) n rest h).0;
                value = a;
                ok = k;
                more = (opt f d is).write a;
                begins = refl;
              };
        }

    pub opt_numbered : (is : A → Bool) → Numbered (opt f d is) malformed
    opt_numbered is = record { only = λ bs why rest h. (else_stopped bs (f.look bs) why rest h).1 }

-- ---- one after the other
rest_pair : {A B : Type 0} (a : A) (x : Res B) → rest_of (pair_up a x) ≡ rest_of x
rest_pair a (got b r) = refl
rest_pair a (stopped n r) = refl

moved_pair : {A B : Type 0} (a : A) (x : Res B) (q : List ℕ) → pair_up a (moved x q) ≡ moved (pair_up a x) q
moved_pair a (got b r) q = refl
moved_pair a (stopped n r) q = refl

stopped_pair : {A B : Type 0} (a : A) (x : Res B) (n : ℕ) (rest : List ℕ) → pair_up a x ≡ stopped n rest → x ≡ stopped n rest
stopped_pair a (got b r) n rest h = cc
stopped_pair a (stopped k r) n rest h = cc

module _ {A B : Type 0} (c : Codec A) (d : A → Codec B) (lo hi : ℕ) (lc : Lawful c lo hi) (pc : Placed c) (pd : (a : A) → Placed (d a)) where
  both_fields : (bs : List ℕ) (x : Res A) → Whole bs (rest_of x) → Whole bs (rest_of (and_then d x))
  both_fields bs (stopped n r) w = w
  both_fields bs (got a m) w =
      rw (w.is, rest_pair a ((d a).read m)) (fields_more w.fields m (rest_of ((d a).read m)) w.whole ((pd a).fields m))

  -- f is what the first reads, g what the second
  both_alike : (w r q : List ℕ) → SameField r q → (x : Res A) → c.read (w ++ r) ≡ x → rest_of (and_then d x) ≡ r → and_then d (c.read (w ++ q)) ≡ moved (and_then d x) q
  both_alike w r q s (stopped n m) e h = ap (and_then d) (pc.alike w r q s (ap rest_of e ∙ h) ∙ ap (λ (x : Res A). moved x q) e)
  both_alike w r q s (got a m) e h =
      let x = pc.fields (w ++ r) in
      let y = (pd a).fields m in
      let f = joined x.fields in
      let g = joined y.fields in
      let h' : rest_of ((d a).read m) ≡ r = sym (rest_pair a ((d a).read m)) ∙ h in
      let m-is : m ≡ g ++ r = y.is ∙ ap (λ (t : List ℕ). g ++ t) h' in
      let left : rest_of (c.read (w ++ r)) ≡ g ++ r = ap rest_of e ∙ m-is in
      let r-is : w ++ r ≡ f ++ (g ++ r) = x.is ∙ ap (λ (t : List ℕ). f ++ t) left in
      let w-is : w ≡ f ++ g = append_cancel_right w (f ++ g) r (r-is ∙ sym (append_assoc f g r)) in
      let q-is : w ++ q ≡ f ++ (g ++ q) = ap (λ (t : List ℕ). t ++ q) w-is ∙ append_assoc f g q in
      let first : c.read (f ++ (g ++ q)) ≡ moved (c.read (w ++ r)) (g ++ q) = alike_at c.read f (g ++ r) (g ++ q) (w ++ r) (pc.alike f (g ++ r) (g ++ q) (same_before y.fields r q y.whole s)) r-is left in
      let second : (d a).read (g ++ q) ≡ moved ((d a).read m) q = alike_at (d a).read g r q m ((pd a).alike g r q s) m-is h' in
      ap (and_then d) (ap c.read q-is ∙ first ∙ ap (λ (x : Res A). moved x (g ++ q)) e) ∙ ap (pair_up a) second ∙ moved_pair a ((d a).read m) q

  first_begun : (bs rest : List ℕ) → Begun c bs rest → Begun (both c d) bs rest
  first_begun bs rest z =
      let y = (pd z.value).any in
      record {
        front = z.front;
        is = z.is;
        value = (z.value, y);
        ok = and_made z.ok (pd z.value).any_ok;
        more = z.more ++ (d z.value).write y;
        begins = ap (λ (t : List ℕ). t ++ (d z.value).write y) z.begins ∙ append_assoc z.front z.more ((d z.value).write y);
      }

  second_begun : (bs m : List ℕ) (a : A) → (bs ≡ c.write a ++ m) × (c.ok a ≡ true) → (rest : List ℕ) → Begun (d a) m rest → Begun (both c d) bs rest
  second_begun bs m a k rest z =
      record {
        front = c.write a ++ z.front;
        is = k.0 ∙ ap (λ (t : List ℕ). c.write a ++ t) z.is ∙ sym (append_assoc (c.write a) z.front rest);
        value = (a, z.value);
        ok = and_made k.1 z.ok;
        more = z.more;
        begins = ap (λ (t : List ℕ). c.write a ++ t) z.begins ∙ sym (append_assoc (c.write a) z.front z.more);
      }

  both_begun : (bs : List ℕ) → Bytes bs → (x : Res A) → c.read bs ≡ x → (n : ℕ) (rest : List ℕ) → and_then d x ≡ stopped n rest → Begun (both c d) bs rest
  both_begun bs b (stopped k r) e n rest h =
      let q : r ≡ rest = cc in
      rw (← q) (first_begun bs r (pc.begun bs k r b e))
  both_begun bs b (got a m) e n rest h =
      let k = lc.back bs a m b e in
      second_begun bs m a k rest ((pd a).begun m n rest (bytes_right (c.write a) m (subst Bytes k.0 b)) (stopped_pair a ((d a).read m) n rest h))

  pub both_placed : Placed (both c d)
  both_placed =
      record {
        fields = λ bs. both_fields bs (c.read bs) (pc.fields bs);
        alike = λ w r q s h. both_alike w r q s (c.read (w ++ r)) refl h;
        any = (pc.any, (pd pc.any).any);
        any_ok = and_made pc.any_ok (pd pc.any).any_ok;
        begun = λ bs n rest b h. both_begun bs b (c.read bs) refl n rest h;
      }

module _ {A B : Type 0} (c : Codec A) (d : A → Codec B) {k : ℕ} (nc : Numbered c k) (nd : (a : A) → Numbered (d a) k) where
  then_numbered : (bs : List ℕ) (x : Res A) → c.read bs ≡ x → (why : ℕ) (rest : List ℕ) → and_then d x ≡ stopped why rest → why ≡ k
  then_numbered bs (stopped n r) e why rest h =
      let q = nc.only bs n r e in
      cc
  then_numbered bs (got a m) e why rest h = (nd a).only m why rest (stopped_pair a ((d a).read m) why rest h)

  pub both_numbered : Numbered (both c d) k
  both_numbered = record { only = λ bs why rest h. then_numbered bs (c.read bs) refl why rest h }
