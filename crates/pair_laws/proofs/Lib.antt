mod Profile
