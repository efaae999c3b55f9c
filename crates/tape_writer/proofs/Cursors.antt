-- What is put at a cursor, part by part.
use Rattle.std.proofs.Common.{◌≡◌, ℕ, ◌+◌, ◌<◌, ◌≤◌, List, [], ◌∷◌, ◌++◌, map, length, get_or, take, drop, sym, ap, ◌∙◌, subst, arith}
use Rattle.std.proofs.lemmas.List.{append_assoc, length-append, drop-drop, take_all, take_more, flat_map_more}
use Rattle.std.proofs.lemmas.List.Folds.{length-flat_map-take}
use Rattle.std.specs.List.{flat_map}
use Rattle.model.specs.declared.window.Window.{Window}
use Rattle.model.specs.Modules.{Module}
use Rattle.draft.specs.declared.draft.Partition.{Partition}
use Rattle.draft.specs.Drafts.{tasks_in}
use Rattle.tape.specs.declared.command.Command.TheVariants.{Frame, End, Window as window}
use Rattle.tape.specs.Commands.{bytes, partition_bytes, encode}
use Rattle.tape.proofs.Parts.{commands_parts}
use Rattle.tape_writer.specs.declared.writer.Cursor.{Cursor}
use Rattle.tape_writer.specs.Cursors.{Room, Puts}

pub puts_more : (bs es : List ℕ) (a b c : Cursor) → Puts bs a b → Puts es b c → Puts (bs ++ es) a c
puts_more bs es a b c p q =
    let back_of : (xs : List ℕ) → drop c.at xs ≡ drop (length es) (drop b.at xs) = λ xs. ap (λ n. drop n xs) q.at ∙ sym (drop-drop (length es) b.at xs) in
    record {
      same = q.same ∙ p.same;
      size = q.size ∙ p.size;
      at = omega (arith, p.at, q.at, length-append bs es);
      front = q.front ∙ (ap (λ xs. xs ++ es) p.front ∙ append_assoc (take a.at a.buffer.now) bs es);
      back = q.back ∙ (back_of b.buffer.now ∙ (ap (drop (length es)) p.back ∙ sym (back_of a.buffer.now)));
    }

pub room_first : (bs es : List ℕ) (a : Cursor) → Room (bs ++ es) a → Room bs a
room_first bs es a r = omega (arith, r, length-append bs es)

pub room_rest : (bs es : List ℕ) (a b : Cursor) → Puts bs a b → Room (bs ++ es) a → Room es b
room_rest bs es a b p r = omega (arith, p.at, p.size, r, length-append bs es)

-- the bytes of items, put one after another
module _ {X : Type 0} (f : X → List ℕ) (xs : List X) (i : ℕ) (a b : Cursor) (p : Puts (flat_map f (take i xs)) a b) where
  pub room_next : (x d : X) → i < length xs → x ≡ get_or xs i d → Room (flat_map f xs) a → Room (f x) b
  room_next x d h is r =
      let l = length-flat_map-take f xs i d h in
      let e = ap (λ y. length (f y)) is in
      omega (arith, l, e, p.at, p.size, r)

  pub puts_next : (x d : X) (c : Cursor) → i < length xs → x ≡ get_or xs i d → Puts (f x) b c → Puts (flat_map f (take (i + 1) xs)) a c
  puts_next x d c h is q =
      let more : flat_map f (take i xs) ++ f x ≡ flat_map f (take (i + 1) xs) =
      flat_map_more f [] (take i xs) x ∙ ap (flat_map f) (ap (λ y. take i xs ++ (y ∷ [])) is ∙ sym (take_more xs i d h))
      in
      subst (λ bs. Puts bs a c) more (puts_more _ _ a b c p q)

  pub puts_all : length xs ≤ i → Puts (flat_map f xs) a b
  puts_all h = subst (λ ys. Puts (flat_map f ys) a b) (take_all i xs h) p

-- a tape, put part by part
module _ (ps : List Partition) (f : ℕ) (ws : List Window) (m : Module) (is : map tasks_in ps ≡ m) (a : Cursor) where
  abbrev Parts : List ℕ
  Parts = flat_map (λ p. partition_bytes (tasks_in p)) ps

  abbrev Frames : List ℕ
  Frames = bytes (Frame f)

  abbrev Windows : List ℕ
  Windows = flat_map (λ w. bytes (window w)) ws

  whole : encode m f ws ≡ Parts ++ (Frames ++ (Windows ++ bytes End))
  whole = commands_parts bytes ps m f ws is

  pub tape_put : (b c d e : Cursor) → Puts Parts a b → Puts Frames b c → Puts Windows c d → Puts (bytes End) d e → Puts (encode m f ws) a e
  tape_put b c d e p q r s =
      subst (λ bs. Puts bs a e) (sym whole) (puts_more Parts (Frames ++ (Windows ++ bytes End)) a b e p (puts_more Frames (Windows ++ bytes End) b c e q (puts_more Windows (bytes End) c d e r s)))

  module _ (room : Room (encode m f ws) a) where
    all_room : Room (Parts ++ (Frames ++ (Windows ++ bytes End))) a
    all_room = subst (λ bs. Room bs a) whole room

    pub partitions_room : Room Parts a
    partitions_room = room_first Parts (Frames ++ (Windows ++ bytes End)) a all_room

    module _ (b : Cursor) (p : Puts Parts a b) where
      after_partitions : Room (Frames ++ (Windows ++ bytes End)) b
      after_partitions = room_rest Parts (Frames ++ (Windows ++ bytes End)) a b p all_room

      pub frame_room : Room Frames b
      frame_room = room_first Frames (Windows ++ bytes End) b after_partitions

      module _ (c : Cursor) (q : Puts Frames b c) where
        after_frame : Room (Windows ++ bytes End) c
        after_frame = room_rest Frames (Windows ++ bytes End) b c q after_partitions

        pub windows_room : Room Windows c
        windows_room = room_first Windows (bytes End) c after_frame

        pub end_room : (d : Cursor) → Puts Windows c d → Room (bytes End) d
        end_room d r = room_rest Windows (bytes End) c d r after_frame
