mod HeldLaws
